-- No definitions of the subject: words of private contracts.
pub mod ArgumentViews
pub mod BranchKinds
pub mod FormSteps
pub mod FormValues
pub mod KnownNumbers
pub mod LanguageViews
pub mod NeededRules
pub mod ToldFindings
pub mod ToldKeys
