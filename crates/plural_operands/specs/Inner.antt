-- No definitions of the subject: steps of readers, for private contracts.
pub mod OperandReader
pub mod ShortTexts
