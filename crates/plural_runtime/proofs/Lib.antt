pub mod bytes
pub mod truth
pub mod counting
pub mod walks
pub mod trees
pub mod texts
mod WorkedRules
