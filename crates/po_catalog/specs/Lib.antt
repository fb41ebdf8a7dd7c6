-- gettext's catalogs
pub mod Catalogs
pub mod Drafts
pub mod FileLines
pub mod Fronts
pub mod Headers
pub mod KeptIds
pub mod LineKinds
pub mod PoBytes
pub mod Quoted
pub mod ReadCatalogs
pub mod ReadTexts
-- not definitions of the subject
pub mod Inner
