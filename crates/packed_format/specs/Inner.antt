-- No definitions of the subject: what private functions find, for private contracts.
pub mod PackedSteps
pub mod FoundNames
