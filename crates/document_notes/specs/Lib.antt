-- the notes of a document
pub mod DocumentNotes
-- the text of a report with notes
pub mod NotedText
-- the answer to an input
pub mod NotedAnswer
