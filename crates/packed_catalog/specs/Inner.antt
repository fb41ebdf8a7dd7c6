-- No definitions of the subject: the reader of blocks, for the view of a catalogue.
pub mod CatalogReading
