pub mod Faults
pub mod Results
pub mod GivenBytes
pub mod GivenTexts
pub mod GivenDocuments
pub mod GivenRanges
pub mod FoundLocales
pub mod GivenElements
pub mod NumberAnswers
pub mod GivenArguments
pub mod GivenPatterns
pub mod PackedDocuments
pub mod FormattedPatterns
pub mod RulesCategories
pub mod TableAnswers
-- not definitions of the subject
pub mod Inner
