-- the numbers of samples, and their faults
pub mod SampleNumbers
pub mod NumberChecks
-- findings, and the findings of texts
pub mod LanguageTexts
pub mod Findings
pub mod TextChecks
-- the first samples of a text
pub mod FirstSamples
-- the texts of faults
pub mod PluralCheckerErrors
-- no definitions of the subject
pub mod Inner
