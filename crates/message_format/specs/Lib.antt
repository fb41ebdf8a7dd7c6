-- what a pattern says with its arguments
pub mod FormatArguments
pub mod FormatOffsets
pub mod FormatBranches
pub mod FormatParts
pub mod FormatSteps
pub mod FormatMeaning
-- not definitions of the subject
pub mod Inner
