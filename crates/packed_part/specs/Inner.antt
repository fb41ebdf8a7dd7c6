-- No definitions of the subject: the reader of items, and views of places.
pub mod PartReading
pub mod ItemForms
pub mod PartViews
