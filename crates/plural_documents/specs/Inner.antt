-- Not definitions of the subject: steps of private calls.
pub mod OutlineSteps
pub mod KeysStanding
pub mod RulesPlaces
pub mod WaitingSteps
