-- the options of a question
pub mod QuestionLemmas
-- answers to documents
pub mod AnswerLemmas
-- the lines of numbers
pub mod NumberResults
-- the byte of a fault
pub mod FoundBytes
-- unknown languages
pub mod UnknownLemmas
pub mod SimilarLemmas
pub mod RulesServe
-- what is read of the rules
pub mod RulesRead
-- the lines of forms
pub mod FormLemmas
-- notes of keys
pub mod NoteLemmas
-- what calls leave alone
pub mod LeftAlone
-- the line for gettext
pub mod ConditionValues
pub mod JoinLemmas
pub mod GettextLemmas
