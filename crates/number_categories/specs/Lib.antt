-- the whole numbers that have a category
pub mod WholeNumbers
-- no definitions of the subject
pub mod Inner
