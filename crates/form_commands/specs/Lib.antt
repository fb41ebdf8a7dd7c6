-- the words of a command line
pub mod Questions
-- the rules of a locale, and what is printed of them
pub mod SimilarKeys
pub mod Languages
pub mod FormLines
-- the line for gettext
pub mod CExpressions
pub mod RuleConditions
pub mod GettextLines
-- errors and statuses
pub mod FormsErrors
-- answers, and what is read and written
pub mod FormsAnswers
pub mod KeyNotes
-- the report of translators' files
pub mod TranslationReports
-- not definitions of the subject
pub mod Inner
