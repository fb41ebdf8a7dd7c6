-- parts of patterns as items of bytes
pub mod PartOrder
pub mod PartPlaces
pub mod PackedParts
-- not definitions of the subject
pub mod Inner
