-- the words of the crates below that public clauses cite
pub use Rattle.fixed_decimal.specs.Digits
pub use Rattle.fixed_decimal.specs.Places
pub use Rattle.fixed_decimal.specs.Written
pub use Rattle.packed_list.specs.ListBytes
pub use Rattle.plural_operands.specs.Operands
pub use Rattle.plural_reference.specs.Lexer
pub use Rattle.plural_reference.specs.Parser
pub use Rattle.plural_reference.specs.Samples
pub use Rattle.plural_reference.specs.Truth
pub use Rattle.plural_reference.specs.Exactness
pub use Rattle.plural_reference.specs.Reading
pub use Rattle.plural_reference.specs.ExactnessLaws
pub use Rattle.plural_runtime.specs.PackedRelations
pub use Rattle.plural_runtime.specs.PackedTruth
pub use Rattle.plural_runtime.specs.PackedTree
pub use Rattle.plural_runtime.specs.RuleOfText
-- categories
pub mod Categories
pub mod FiveRules
pub mod Ranges
pub mod RuleTexts
pub mod RulesBytes
pub mod CategoryTables
pub mod ToldCategories
pub mod RuleSizes
pub mod PluralBaseErrors
pub mod Json
pub mod RulesJson
pub mod RangesJson
pub mod Providers
pub mod DocumentJson
pub mod DecimalChoice
pub mod SureChoice
pub mod ChoiceLaws
-- not definitions of the subject
pub mod Inner
