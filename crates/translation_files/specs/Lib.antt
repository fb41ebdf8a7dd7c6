-- notices, kinds and counts
pub mod NoticeSeverities
pub mod MessageFates
-- where messages stand
pub mod FilePlaces
-- what a file gives
pub mod MessageDocuments
pub mod ReadFiles
-- not definitions of the subject
pub mod Inner
