-- the parents, and their chains
pub mod ParentRows
pub mod ChainSteps
-- not definitions of the subject
pub mod Inner
