pub mod CheckedDocument
-- findings
pub mod DocumentPlaces
pub mod DocumentFindings
pub mod FoundInDocuments
-- the report
pub mod ParentFaults
pub mod DocumentReport
pub mod ReportText
pub mod CheckAnswer
pub mod FaultlessDocuments
-- not definitions of the subject
pub mod Inner
