-- Not a definition of the subject: the fault that an error of a crate below becomes. One of memory
-- becomes that of memory.
use Rattle.catalog_commands.specs.declared.fault.PatternsFault.{PatternsFault}
use Rattle.catalog_commands.specs.declared.fault.PatternsFault.TheVariants as patterns
use Rattle.icu_plurals.specs.declared.DecimalError.{DecimalError}
use Rattle.icu_plurals.specs.declared.DecimalError.TheVariants as decimal
use Rattle.icu_plurals.specs.declared.JsonError.{JsonError}
use Rattle.icu_plurals.specs.declared.JsonError.TheVariants as json
use Rattle.icu_plurals.specs.declared.RulesPackError.{RulesPackError}
use Rattle.icu_plurals.specs.declared.RulesPackError.TheVariants as packing
use Rattle.icu_plurals.specs.declared.provider.rules.runtime.ast.RuleError.{RuleError}
use Rattle.icu_plurals.specs.declared.provider.rules.runtime.ast.RuleError.TheVariants as rule
use Rattle.message_catalog.specs.declared.error.TextFault.{TextFault}
use Rattle.message_catalog.specs.declared.error.TextFault.TheVariants as read
use Rattle.message_format.specs.declared.error.FormatError.{FormatError}
use Rattle.message_format.specs.declared.error.FormatError.TheVariants as format
use Rattle.message_pattern.specs.declared.error.PatternError.{PatternError}
use Rattle.message_pattern.specs.declared.error.PatternError.TheVariants as pattern
use Rattle.packed_catalog.specs.declared.error.PackCatalogError.{PackCatalogError}
use Rattle.packed_catalog.specs.declared.error.PackCatalogError.TheVariants as entries
use Rattle.packed_pattern.specs.declared.error.PackPatternError.{PackPatternError}
use Rattle.packed_pattern.specs.declared.error.PackPatternError.TheVariants as unpacked
use Rattle.plural_documents.specs.declared.JsonTextError.{JsonTextError}
use Rattle.plural_documents.specs.declared.JsonTextError.TheVariants as text
use Rattle.plural_exports.specs.declared.fault.Fault.{Fault}
use Rattle.plural_exports.specs.declared.fault.Fault.TheVariants.{Memory, Number, Text, RulesLimit, Json, Document, Pattern, Argument, Packing, Entries}

-- of a number's text
abbrev pub decimal_fault : DecimalError → Fault
decimal_fault decimal.Syntax = Number decimal.Syntax
decimal_fault decimal.Limit = Number decimal.Limit
decimal_fault decimal.Memory = Memory

-- of a rule's text
abbrev pub text_fault : RuleError → Fault
text_fault (rule.Parse kind) = Text (rule.Parse kind)
text_fault rule.StartLimit = Text rule.StartLimit
text_fault rule.Memory = Memory

-- of rules that are packed
abbrev pub rules_pack_fault : RulesPackError → Fault
rules_pack_fault packing.StartLimit = RulesLimit
rules_pack_fault packing.Memory = Memory

-- of a JSON text
abbrev pub json_text_fault : JsonTextError → Fault
json_text_fault text.Json = Json
json_text_fault text.Memory = Memory

-- of a JSON value
abbrev pub json_fault : JsonError → Fault
json_fault json.Memory = Memory
json_fault refusal = Document refusal

-- of a pattern's text
abbrev pub pattern_fault : PatternError → Fault
pattern_fault (pattern.Fault kind place) = Pattern kind
pattern_fault pattern.Memory = Memory

-- of a pattern with its arguments
abbrev pub format_fault : FormatError → Fault
format_fault (format.Argument fault name) = Argument fault
format_fault format.Memory = Memory

-- of a pattern that is packed
abbrev pub pattern_pack_fault : PackPatternError → Fault
pattern_pack_fault unpacked.Memory = Memory
pattern_pack_fault reason = Packing reason

-- of the text of a pattern that is packed
abbrev pub pattern_text_fault : TextFault → Fault
pattern_text_fault (read.Text kind place) = Pattern kind
pattern_text_fault (read.Pattern reason) = pattern_pack_fault reason

-- of entries that are packed
abbrev pub entries_pack_fault : PackCatalogError → Fault
entries_pack_fault entries.Memory = Memory
entries_pack_fault reason = Entries reason

-- of patterns that are packed
abbrev pub patterns_fault : PatternsFault → Fault
patterns_fault patterns.NoObject = Document json.Shape
patterns_fault (patterns.NoText key) = Document json.Shape
patterns_fault (patterns.Message key fault) = pattern_text_fault fault
patterns_fault (patterns.Catalog reason) = entries_pack_fault reason
patterns_fault patterns.Memory = Memory
