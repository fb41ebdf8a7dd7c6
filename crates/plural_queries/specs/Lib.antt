pub mod Commands
pub mod NumberWords
pub mod Queries
pub mod Input
pub mod Lines
pub mod LookupAnswers
-- what calls return, and of which values
pub mod QueryViews
pub mod CallAnswers
pub mod KeptDocuments
