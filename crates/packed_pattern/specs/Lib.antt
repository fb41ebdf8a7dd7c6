-- the parts of a block, passed on
pub use Rattle.packed_part.specs.PartOrder
pub use Rattle.packed_part.specs.PartPlaces
pub use Rattle.packed_part.specs.PackedParts
-- patterns as blocks of bytes
pub mod PatternBlocks
-- not definitions of the subject
pub mod Inner
