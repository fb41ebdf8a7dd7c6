-- what is printed of numbers
pub mod PrintedTexts
pub mod NumberAnswers
-- the lines of an input, and what is read and written of them
pub mod InputLines
pub mod AnsweredInputs
-- not definitions of the subject
pub mod Inner
