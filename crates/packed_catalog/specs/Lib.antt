-- catalogues as blocks of bytes
pub mod CatalogBytes
pub mod CatalogFaults
-- not a definition of the subject
pub mod Inner
