use Rattle.std.proofs.Common.{sym, ◌∙◌}
use Rattle.serde_json.specs.View.{view}
use Rattle.plural_base.proofs.pairs.RangeRefusals.{ranges_no_memory}
use Rattle.plural_base.proofs.ranges.PluralRanges.from_json.Goals as goal

pub returns-clause-no_memory : goal.returns-clause-no_memory
returns-clause-no_memory c = λ memory. ranges_no_memory (view c.args.value.now) (sym c.read_ranges.ensures ∙ memory)
