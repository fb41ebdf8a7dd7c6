-- The choice of a category, and why there is none that is sure.
pub mod Choice
pub mod Members
pub mod WidestChoice
pub mod RuleRefusals
pub mod SureFaults
-- ranges in order, and rules with these
pub mod OrderedLists
pub mod OrderedTruth
-- what a text is answered
pub mod TextAnswers
