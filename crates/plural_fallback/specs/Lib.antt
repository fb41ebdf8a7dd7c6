-- locales, and their chains
pub mod LocaleNames
pub mod Chain
pub mod FirstKeys
-- the keys and the parents in a document
pub mod LocalesJson
-- languages that have no rules of their own
pub mod UnknownLanguages
