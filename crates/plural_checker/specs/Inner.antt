-- texts that are read once
pub mod TextReadings
-- numbers that are checked by their operands alone
pub mod ShortNumbers
-- the words of a text
pub mod SampleSteps
