-- Rules that come from texts and documents.
pub mod Answered
pub mod Checked
pub mod EveryReading
pub mod Rows
pub mod RowsFound
pub mod RowsRead
pub mod DocumentRefusals
pub mod RulesRead
pub mod ValuesRead
pub mod KeptRules
