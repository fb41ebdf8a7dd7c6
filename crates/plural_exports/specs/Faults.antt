-- The number that an export returns for each fault (docs/C.md). Places aren't told.
use Rattle.std.specs.Prelude.{ℕ, ◌-◌, ℤ, negsuc}
use Rattle.catalog_commands.specs.declared.locales.MessagesFault.{MessagesFault}
use Rattle.catalog_commands.specs.declared.locales.MessagesFault.TheVariants as document
use Rattle.icu_plurals.specs.declared.DecimalError.{DecimalError}
use Rattle.icu_plurals.specs.declared.DecimalError.TheVariants as decimal
use Rattle.icu_plurals.specs.declared.ElementsPackError.{ElementsPackError}
use Rattle.icu_plurals.specs.declared.ElementsPackError.TheVariants as packing
use Rattle.icu_plurals.specs.declared.JsonError.{JsonError}
use Rattle.icu_plurals.specs.declared.JsonError.TheVariants as json
use Rattle.icu_plurals.specs.declared.ListError.TheVariants.{Header, ZeroCount, Start}
use Rattle.icu_plurals.specs.declared.RulesBytesError.{RulesBytesError}
use Rattle.icu_plurals.specs.declared.RulesBytesError.TheVariants as block
use Rattle.icu_plurals.specs.declared.packed.error.ElementsBytesError.{ElementsBytesError}
use Rattle.icu_plurals.specs.declared.packed.error.ElementsBytesError.TheVariants as elements
use Rattle.icu_plurals.specs.declared.provider.rules.reference.ParseError.{ParseError}
use Rattle.icu_plurals.specs.declared.provider.rules.reference.ParseError.TheVariants as parse
use Rattle.icu_plurals.specs.declared.provider.rules.runtime.ast.RuleBytesError.{RuleBytesError}
use Rattle.icu_plurals.specs.declared.provider.rules.runtime.ast.RuleBytesError.TheVariants as packed
use Rattle.icu_plurals.specs.declared.provider.rules.runtime.ast.RuleError.{RuleError}
use Rattle.icu_plurals.specs.declared.provider.rules.runtime.ast.RuleError.TheVariants as rule
use Rattle.message_format.specs.declared.error.ArgumentFault.{ArgumentFault}
use Rattle.message_format.specs.declared.error.ArgumentFault.TheVariants as argument
use Rattle.message_pattern.specs.declared.error.FaultKind.{FaultKind}
use Rattle.message_pattern.specs.declared.error.FaultKind.TheVariants as pattern
use Rattle.message_catalog.specs.declared.error.MessageCatalogError.{MessageCatalogError}
use Rattle.message_catalog.specs.declared.error.MessageCatalogError.TheVariants as messages
use Rattle.packed_catalog.specs.declared.error.CatalogError.{CatalogError}
use Rattle.packed_catalog.specs.declared.error.CatalogError.TheVariants as entries
use Rattle.packed_catalog.specs.declared.error.PackCatalogError.{PackCatalogError}
use Rattle.packed_catalog.specs.declared.error.PackCatalogError.TheVariants as entered
use Rattle.packed_pattern.specs.declared.error.BlockError.{BlockError}
use Rattle.packed_pattern.specs.declared.error.BlockError.TheVariants as blocked
use Rattle.packed_pattern.specs.declared.error.PackPatternError.{PackPatternError}
use Rattle.packed_pattern.specs.declared.error.PackPatternError.TheVariants as unpacked
use Rattle.plural_exports.specs.declared.fault.Fault.{Fault}
use Rattle.plural_exports.specs.declared.fault.Fault.TheVariants.{Memory, Utf8, RuleType, Number, OutsideBound, Text, Rules, RulesLimit, Elements, Json}
use Rattle.plural_exports.specs.declared.fault.Fault.TheVariants.{Document, Locale, TableLength, Pattern, Argument, ArgumentKind, Packed, Packing, Catalog, NoKey, Messages, Entries}

-- the negative of a number that isn't 0
abbrev pub minus : ℕ → ℤ
minus n = negsuc (n - 1)

-- out of memory, for whatever it was wanted
abbrev pub memory_number : ℤ
memory_number = minus 1

-- a text isn't a number
abbrev pub decimal_number : DecimalError → ℤ
decimal_number decimal.Syntax = minus 10
decimal_number decimal.Limit = minus 11
decimal_number decimal.Memory = memory_number

-- a text isn't a rule
abbrev pub parse_number : ParseError → ℤ
parse_number parse.ExpectedAndCondition = minus 20
parse_number parse.ExpectedRelation = minus 21
parse_number parse.ExpectedOperator = minus 22
parse_number parse.ExpectedOperand = minus 23
parse_number parse.ExpectedValue = minus 24
parse_number parse.ExpectedSampleType = minus 25
parse_number parse.ValueTooLarge = minus 26

-- a text gives no rule: it is none, or the rule is too long
abbrev pub rule_number : RuleError → ℤ
rule_number (rule.Parse fault) = parse_number fault
rule_number rule.StartLimit = minus 27
rule_number rule.Memory = memory_number

-- bytes in a block aren't a rule
abbrev pub packed_number : RuleBytesError → ℤ
packed_number (packed.List Header) = minus 35
packed_number (packed.List ZeroCount) = minus 36
packed_number (packed.List Start) = minus 37
packed_number (packed.ItemLength place) = minus 38
packed_number (packed.Operand place) = minus 39

-- bytes aren't a block of rules
abbrev pub block_number : RulesBytesError → ℤ
block_number (block.List Header) = minus 30
block_number (block.List ZeroCount) = minus 31
block_number (block.List Start) = minus 32
block_number (block.ItemEmpty place) = minus 33
block_number (block.Key place) = minus 34
block_number (block.Rule place fault) = packed_number fault

-- bytes aren't packed elements
abbrev pub elements_number : ElementsBytesError → ℤ
elements_number elements.Empty = minus 50
elements_number elements.Short = minus 51
elements_number elements.Padding = minus 52
elements_number elements.DefaultText = minus 53
elements_number (elements.List Header) = minus 54
elements_number (elements.List ZeroCount) = minus 55
elements_number (elements.List Start) = minus 56
elements_number (elements.ItemEmpty place) = minus 57
elements_number (elements.Key place) = minus 58
elements_number (elements.ItemText place) = minus 59

-- elements can't be packed
abbrev pub packing_number : ElementsPackError → ℤ
packing_number packing.DefaultLimit = minus 60
packing_number packing.StartLimit = minus 61
packing_number packing.Memory = memory_number

-- a JSON value is refused; a rule's text in it and elements that can't be packed have the same
-- numbers as elsewhere
abbrev pub json_number : JsonError → ℤ
json_number json.Float = minus 71
json_number json.Shape = minus 72
json_number (json.Rule category fault) = rule_number fault
json_number json.RangeKey = minus 73
json_number json.RangeValue = minus 74
json_number (json.Pack fault) = packing_number fault
json_number json.Memory = memory_number

-- a text isn't a pattern
abbrev pub pattern_number : FaultKind → ℤ
pattern_number pattern.Unclosed = minus 90
pattern_number pattern.ExpectedName = minus 91
pattern_number pattern.BadNumber = minus 92
pattern_number pattern.ExpectedEnd = minus 93
pattern_number pattern.ExpectedType = minus 94
pattern_number pattern.UnsupportedType = minus 95
pattern_number pattern.ExpectedStyle = minus 96
pattern_number pattern.ExpectedOffset = minus 97
pattern_number pattern.ExpectedSelector = minus 98
pattern_number pattern.ExpectedValue = minus 99
pattern_number pattern.ExpectedBranch = minus 100
pattern_number pattern.MissingOther = minus 101
pattern_number pattern.TooDeep = minus 102

-- a pattern can't be said with an argument
abbrev pub argument_number : ArgumentFault → ℤ
argument_number argument.Missing = minus 110
argument_number argument.WrongKind = minus 111
argument_number argument.NotANumber = minus 112
argument_number argument.OverLimit = minus 113
argument_number argument.CompactOffset = minus 114

-- bytes aren't the block of a pattern
abbrev pub pattern_block_number : BlockError → ℤ
pattern_block_number (blocked.List Header) = minus 120
pattern_block_number (blocked.List ZeroCount) = minus 121
pattern_block_number (blocked.List Start) = minus 122
pattern_block_number (blocked.Part place) = minus 123
pattern_block_number (blocked.Place place) = minus 124
pattern_block_number (blocked.Order place) = minus 125

-- a pattern can't be packed
abbrev pub pattern_packing_number : PackPatternError → ℤ
pattern_packing_number unpacked.CountLimit = minus 130
pattern_packing_number (unpacked.Part place) = minus 131
pattern_packing_number (unpacked.Order place) = minus 132
pattern_packing_number unpacked.StartLimit = minus 133
pattern_packing_number unpacked.Memory = memory_number

-- bytes aren't a packed catalogue
abbrev pub entries_number : CatalogError → ℤ
entries_number entries.Header = minus 140
entries_number entries.Length = minus 141
entries_number (entries.End place) = minus 142
entries_number (entries.Order place) = minus 143

-- bytes aren't a catalogue of messages; what isn't the block of a pattern has the same numbers as elsewhere
abbrev pub catalog_number : MessageCatalogError → ℤ
catalog_number (messages.Catalog fault) = entries_number fault
catalog_number (messages.Pattern place fault) = pattern_block_number fault

-- a document of messages has no patterns that are packed
abbrev pub messages_number : MessagesFault → ℤ
messages_number document.NoLocale = minus 150
messages_number document.SeveralLocales = minus 151
messages_number document.AbsentLocale = minus 152
messages_number document.CardinalForms = minus 153
messages_number document.OrdinalForms = minus 154
messages_number document.NoPatterns = minus 155

-- entries can't be packed as a catalogue
abbrev pub entries_packing_number : PackCatalogError → ℤ
entries_packing_number entered.TooMany = minus 160
entries_packing_number (entered.Order place) = minus 161
entries_packing_number entered.TooLong = minus 162
entries_packing_number entered.Memory = memory_number

-- the number of a fault
abbrev pub fault_number : Fault → ℤ
fault_number Memory = memory_number
fault_number Utf8 = minus 2
fault_number RuleType = minus 3
fault_number (Number fault) = decimal_number fault
fault_number OutsideBound = minus 12
fault_number (Text fault) = rule_number fault
fault_number (Rules fault) = block_number fault
fault_number RulesLimit = minus 40
fault_number (Elements fault) = elements_number fault
fault_number Json = minus 70
fault_number (Document fault) = json_number fault
fault_number Locale = minus 75
fault_number TableLength = minus 80
fault_number (Pattern kind) = pattern_number kind
fault_number (Argument fault) = argument_number fault
fault_number ArgumentKind = minus 115
fault_number (Packed fault) = pattern_block_number fault
fault_number (Packing fault) = pattern_packing_number fault
fault_number (Catalog fault) = catalog_number fault
fault_number NoKey = minus 144
fault_number (Messages fault) = messages_number fault
fault_number (Entries fault) = entries_packing_number fault
