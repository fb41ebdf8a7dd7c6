-- catalogues of a document's patterns, and the words of a command line
pub mod CatalogWords
pub mod DocumentPatterns
pub mod GivenWords
pub mod LocaleMessages
-- not a definition of the subject
pub mod Inner
