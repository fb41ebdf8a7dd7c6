-- The categories of integers by tables.
pub mod Residues
pub mod Walk
pub mod Guesses
pub mod Lists
pub mod KnownLists
pub mod Bounds
pub mod Moduli
pub mod Fractions
pub mod Bits
pub mod Told
pub mod Writes
