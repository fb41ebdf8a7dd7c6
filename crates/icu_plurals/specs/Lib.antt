-- elements
pub mod Elements
pub mod ElementCalls
-- packed elements
pub mod PackedElements
pub mod ElementsFaults
pub mod ElementsJson
-- no definitions of the subject: the reader of bytes, steps, and what contracts see of borrowed
-- values
pub mod Inner
-- ---- Definitions of the crates below, passed on so that a crate above needs only this one

-- the written numbers
pub use Rattle.fixed_decimal.specs.Digits
pub use Rattle.fixed_decimal.specs.Places
pub use Rattle.fixed_decimal.specs.Written
-- packed lists
pub use Rattle.packed_list.specs.ListBytes
-- operands, texts and trees
pub use Rattle.plural_reference.specs.Lexer
pub use Rattle.plural_operands.specs.Operands
pub use Rattle.plural_operands.specs.OperandText
pub use Rattle.plural_reference.specs.Parser
pub use Rattle.plural_reference.specs.Samples
pub use Rattle.plural_reference.specs.Reading
pub use Rattle.plural_reference.specs.Serializer
pub use Rattle.plural_reference.specs.Truth
pub use Rattle.plural_reference.specs.Exactness
-- packed rules
pub use Rattle.plural_runtime.specs.PackedRelations
pub use Rattle.plural_runtime.specs.PackedTruth
pub use Rattle.plural_runtime.specs.PackedTree
pub use Rattle.plural_runtime.specs.RuleOfText
pub use Rattle.plural_runtime.specs.RuleKinds
-- categories
pub use Rattle.plural_base.specs.Categories
pub use Rattle.plural_base.specs.FiveRules
pub use Rattle.plural_base.specs.RuleTexts
pub use Rattle.plural_base.specs.RulesBytes
pub use Rattle.plural_base.specs.CategoryTables
pub use Rattle.plural_base.specs.ToldCategories
pub use Rattle.plural_base.specs.RuleSizes
pub use Rattle.plural_base.specs.DecimalChoice
pub use Rattle.plural_base.specs.SureChoice
-- ranges
pub use Rattle.plural_base.specs.Ranges
pub use Rattle.plural_base.specs.Providers
-- JSON and providers
pub use Rattle.plural_base.specs.Json
pub use Rattle.plural_base.specs.RulesJson
pub use Rattle.plural_base.specs.RangesJson
pub use Rattle.plural_base.specs.DocumentJson
-- the texts of errors
pub use Rattle.plural_reference.specs.PluralReferenceErrors
pub use Rattle.plural_base.specs.PluralBaseErrors
-- ---- No definitions of the subject: readers of bytes and what contracts see of borrowed values,
-- for laws and views

pub use Rattle.packed_list.specs.Inner.ListReading
pub use Rattle.plural_runtime.specs.Inner.RuleReading
pub use Rattle.plural_runtime.specs.Inner.RuleViews
