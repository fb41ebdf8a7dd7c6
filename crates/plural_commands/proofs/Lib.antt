pub mod Lengths
pub mod Readings
