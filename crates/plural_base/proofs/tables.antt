-- The bytes of tables of categories.
pub mod Entries
