-- No definitions of the subject: words of private contracts.
pub mod Rows
