-- findings
pub mod DocumentCodes
pub mod DocumentObjects
pub mod NoteCodes
-- formats
pub mod DocumentLines
pub mod DocumentLog
pub mod DocumentCommands
pub mod FileText
pub mod NotedLog
pub mod NotedFormats
pub mod DocumentLineLaws
-- words
pub mod CheckWords
-- not definitions of the subject
pub mod Inner
