pub mod Inputs
pub mod PrintedKeys
pub mod Steps
-- lines that are written as they are printed
pub mod WrittenLines
-- what is kept of a value
pub mod Outlines
-- the keys that stand more than once in an object
pub mod RepeatedKeys
-- not definitions of the subject
pub mod Inner
