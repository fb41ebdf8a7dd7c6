-- Not definitions of the subject: views of private values, and steps of private calls.
pub mod QuestionViews
pub mod FormsInputFaults
pub mod RunSteps
pub mod SimilarSteps
pub mod NoteSteps
pub mod ConditionSteps
