use Rattle.std.proofs.Common.{sym, ◌∙◌}
use Rattle.plural_base.specs.RangesJson.{ranges_meant}
use Rattle.serde_json.specs.View.{view}
use Rattle.plural_base.proofs.pairs.RangeRefusals.{exactly_answered, ranges_no_float, ranges_no_rule}
use Rattle.plural_base.proofs.json.ranges.PluralRangesFromJson.read.Goals as goal
use Rattle.plural_runtime.specs.declared.error.RuleError.TheVariants as fault

pub returns-clause-answers : goal.returns-clause-answers
returns-clause-answers c = exactly_answered c.read_ranges.result (ranges_meant (view c.args.value.now)) c.read_ranges.ensures

pub returns-clause-float : goal.returns-clause-float
returns-clause-float c = λ float. ranges_no_float (view c.args.value.now) (sym c.read_ranges.ensures ∙ float)

pub returns-clause-memory : goal.returns-clause-memory
returns-clause-memory c =
    λ category memory. ranges_no_rule category fault.Memory (view c.args.value.now) (sym c.read_ranges.ensures ∙ memory)
