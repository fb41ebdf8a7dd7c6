use Rattle.std.proofs.Common.{◌≡◌, Err, ap, sym, ◌∙◌}
use Rattle.std.proofs.lemmas.Result.{err_from_is_err_and}
use Rattle.plural_base.specs.declared.json.error.JsonError.TheVariants.{Float, Rule}
use Rattle.plural_runtime.specs.declared.error.RuleError.TheVariants as fault
use Rattle.serde_json.specs.View.{view}
use Rattle.plural_base.proofs.pairs.RangeRefusals.{ranges_no_float, ranges_no_rule}
use Rattle.plural_base.proofs.json.ranges.PluralRangesFromJson.check.Goals as goal

pub returns-in_err-read_ranges-clause-float : goal.returns-in_err-read_ranges-clause-float
returns-in_err-read_ranges-clause-float c = λ float.
    let p = err_from_is_err_and c.from_residual.result c.from_residual.ensures.1 in
    let same : c.in_err-read_ranges.field-0.0 ≡ Float = let passed = p.1 in let error = p.2 in cc in
    ranges_no_float (view c.args.value.now) (sym c.in_err-read_ranges.ensures ∙ ap Err same)

pub returns-in_err-read_ranges-clause-memory : goal.returns-in_err-read_ranges-clause-memory
returns-in_err-read_ranges-clause-memory c = λ category memory.
    let p = err_from_is_err_and c.from_residual.result c.from_residual.ensures.1 in
    let same : c.in_err-read_ranges.field-0.0 ≡ Rule category fault.Memory = let passed = p.1 in let error = p.2 in cc in
    ranges_no_rule category fault.Memory (view c.args.value.now) (sym c.in_err-read_ranges.ensures ∙ ap Err same)
