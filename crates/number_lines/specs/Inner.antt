-- Not definitions of the subject: the state between lines, and the steps of private calls.
pub mod LineSteps
pub mod StreamSteps
