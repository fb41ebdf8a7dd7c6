mod EscapedChars
mod LoopSteps
pub mod NoFloats
pub mod PlainData
pub mod LineLemmas
mod ReadFindings
mod ObjectLemmas
-- with lines
mod ReadLocated
mod LocatedLemmas
