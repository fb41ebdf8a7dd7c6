use Rattle.std.proofs.Common.{ap, sym, ◌∙◌}
use Rattle.plural_runtime.specs.PackedRelations.{range_bytes}
use Rattle.plural_runtime.specs.RuleKinds.{ends, range_or_value}
use Rattle.plural_runtime.specs.Inner.RuleReading.{range_in}
use Rattle.plural_runtime.proofs.bytes.ItemRanges.{ends_again}
use Rattle.plural_runtime.proofs.range.RangeOrValue.from_unaligned.Goals as goal

pub returns-clause-bytes : goal.returns-clause-bytes
returns-clause-bytes c = ap range_bytes (ap ends c.range_of.ensures ∙ ends_again (range_in c.args.bytes)) ∙ c.spelled.ensures

pub returns-clause-value : goal.returns-clause-value
returns-clause-value c = c.range_of.ensures ∙ ap range_or_value (sym (ap ends c.range_of.ensures ∙ ends_again (range_in c.args.bytes)))
