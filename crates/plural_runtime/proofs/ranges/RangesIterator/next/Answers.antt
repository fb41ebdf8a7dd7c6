use Rattle.std.proofs.Common.{◌∙◌, ◌≤◌, ◌∷◌, arith, length, map, sym, ap, drop}
use Rattle.std.proofs.lemmas.Bool.{eqb-true, eqb-false}
use Rattle.plural_runtime.specs.RuleKinds.{range_or_value}
use Rattle.plural_runtime.specs.Inner.RuleReading.{range_in, ranges_in}
use Rattle.plural_runtime.proofs.counting.RangeSteps.{ranges-long}
use Rattle.plural_runtime.proofs.ranges.RangesIterator.next.Goals as goal

pub returns-clause-steps : goal.returns-clause-steps
returns-clause-steps c =
    let bytes = c.self.inside.bytes.now in
    let range = c.split_at.result.0.now in
    let others = c.split_at.result.1.now in
    let some : 8 ≤ length bytes = omega (arith, eqb-true _ _ c.self.invariant, eqb-false _ _ (sym c.if-is_empty.ensures)) in
    let first = ap (λ r. range_in r ∷ ranges_in (drop 8 bytes)) (sym c.split_at.ensures.front) in
    let rest = ap (λ b. range_in range ∷ ranges_in b) (sym c.split_at.ensures.back) in
    sym c.self.view_is ∙ ap (map range_or_value) (ranges-long bytes some ∙ first ∙ rest)
    ∙ ap (λ r. r ∷ map range_or_value (ranges_in others)) (sym c.first_range.ensures)

pub returns-clause-goes : goal.returns-clause-goes
returns-clause-goes c =
    let shorter = ap length (returns-clause-steps c) in
    record { on = λ _. (tt, tt, omega (arith, shorter)); keeps = tt; rests = λ _. tt }
