-- Not definitions of the subject: views of private values, and steps of private calls.
pub mod PlaceSteps
