pub mod choice
pub mod bound
pub mod reading
pub mod pairs
pub mod encoding
pub mod integers
pub mod tables
