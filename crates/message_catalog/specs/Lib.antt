-- catalogues of messages
pub mod CatalogMessages
pub mod MessageFaults
pub mod MessagePacking
pub mod MessageTexts
-- not a definition of the subject
pub mod Inner
