-- The walk over the relations of a rule.
pub mod Walks
pub mod WalkSteps
pub mod NeededMost
