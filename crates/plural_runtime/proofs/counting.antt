-- How many ranges a truth needs.
pub mod Counts
pub mod NeededGroups
pub mod RangeSteps
