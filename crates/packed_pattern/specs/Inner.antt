-- No definitions of the subject: the reader of items, and views, for private contracts.
pub use Rattle.packed_part.specs.Inner.PartReading
pub mod PlacesAhead
