use Rattle.std.proofs.Common.{◌<◌, ◌≤◌, ◌+◌, ◌-◌, ℕ, get_or, length, subst, sym}
use Rattle.std.proofs.lemmas.List.{get_or_default}
use Rattle.plural_base.proofs.choice.OrderedLists.{IsKept, Ranges, one_covered, one_kept}
use Rattle.plural_base.proofs.rules.ordered.ranges.without_covered.Goals as goal

pub loop-range-preserved-then-is_covered : goal.loop-range-preserved-then-is_covered
loop-range-preserved-then-is_covered c =
    let ranges : Ranges = c.args.ranges.now in
    let index : ℕ = c.loop-range.range-index in
    let range : ℕ × ℕ = get_or ranges index (0, 0) in
    one_covered ranges c.loop-range.kept.items index range c.loop-range.invariant c.loop-range-test.true
    (get_or_default ranges index (0, 0) range c.loop-range-test.true)
    (subst (λ (kept : Ranges). (0 < length kept) × ((d : ℕ × ℕ) → range.1 ≤ (get_or kept (length kept - 1) d).1))
    c.as_slice.ensures.value c.if-is_covered.ensures)

pub loop-range-preserved : goal.loop-range-preserved
loop-range-preserved c =
    let ranges : Ranges = c.args.ranges.now in
    let index : ℕ = c.loop-range.range-index in
    let range : ℕ × ℕ = get_or ranges index (0, 0) in
    subst (λ (kept : Ranges). IsKept ranges kept (index + 1)) (sym c.in_ok-push.ensures.items)
    (one_kept ranges c.loop-range.kept.items index range c.requires c.loop-range.invariant c.loop-range-test.true
    (get_or_default ranges index (0, 0) range c.loop-range-test.true)
    (subst (λ (kept : Ranges). (d : ℕ × ℕ) → 0 < length kept → (get_or kept (length kept - 1) d).1 < range.1)
    c.as_slice.ensures.value c.if-is_covered.ensures))
