-- No definitions of the subject: the reader of messages, and a view, for private contracts.
pub mod MessageReading
pub mod PackedViews
