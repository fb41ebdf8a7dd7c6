-- The truth of packed rules and of their trees.
pub mod Meanings
pub mod TreeGroups
pub mod TwoTruths
