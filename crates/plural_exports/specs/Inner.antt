-- No definitions of the subject: what private calls return.
pub mod Conversions
pub mod GivenResults
pub mod UnderRules
