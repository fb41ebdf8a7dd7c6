-- keys, forms, and the numbers that choose them
pub mod PrintedKeys
pub mod MessageForms
pub mod WholeNumberLaws
pub mod SourceArguments
pub mod FormFaults
-- patterns
pub mod PatternBranches
pub mod PatternFaults
-- findings
pub mod MessagePlaces
pub mod FindingCauses
pub mod MessageFindings
-- the rules of locales
pub mod RulesSource
-- the report
pub mod FoundInMessages
pub mod MessagesReport
pub mod MessagesReportText
pub mod MessagesRun
-- not definitions of the subject
pub mod Inner
