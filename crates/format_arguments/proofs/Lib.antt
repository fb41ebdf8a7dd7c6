pub mod Runs
pub mod Numerals
pub mod Rests
pub mod Readings
pub mod OneReading
pub mod NumberNames
pub mod Finds
