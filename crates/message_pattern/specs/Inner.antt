-- No definitions of the subject: views of private types, for private contracts.
pub mod PatternViews
pub mod PatternFold
