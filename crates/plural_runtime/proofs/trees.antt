-- Trees that are packed.
pub mod TreeWalks
pub mod PackedTrees
pub mod SameRelations
