-- What is read of tokens: the reader of conditions and the grammar agree, and the parser takes its
-- steps.
pub mod PlacedFaults
pub mod ReaderComplete
pub mod ReaderSound
pub mod Readings
pub mod ParserSteps
pub mod WorkedConditions
