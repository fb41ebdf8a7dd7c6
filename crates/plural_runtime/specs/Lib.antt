pub mod PackedRelations
pub mod PackedTruth
pub mod PackedTree
pub mod RuleKinds
pub mod RuleText
pub mod RuleOfText
-- not definitions of the subject
pub mod Inner
