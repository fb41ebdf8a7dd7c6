pub mod RowLookups
pub mod ChainLimits
pub mod ChainSteps
