-- tokens
pub mod TokenFronts
pub mod TokenCuts
-- the grammar and the reader
pub mod Levels
pub mod MachineComplete
pub mod MachineSound
pub mod MachineStops
pub mod PendingViews
pub mod ReaderSteps
-- whole texts
pub mod Counts
pub mod Told
