-- notes that are gathered
pub mod Gathered
-- answers and faults
pub mod NotedAnswers
-- texts, piece by piece
pub mod NotedTexts
