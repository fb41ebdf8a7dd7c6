-- the first key of a locale, and what stands under it
pub mod LocaleKeys
-- what is kept for it
pub mod KeptRules
-- not definitions of the subject
pub mod Inner
