-- No definitions of the subject: readers and steps, for views and private contracts.
pub mod Scan
pub mod BehindFirst
pub mod Front
pub mod Reader
pub mod TreeSink
pub mod SampleReading
pub mod RuleReader
