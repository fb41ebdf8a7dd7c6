pub mod Integers
pub mod Faults
pub mod KeptDocuments
pub mod Questions
