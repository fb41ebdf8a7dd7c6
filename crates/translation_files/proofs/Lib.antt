pub mod PlaceLemmas
pub mod NoticeLemmas
pub mod DocumentLemmas
pub mod ReadLemmas
