use Rattle.std.proofs.Common.{◌≡◌, ◌∙◌, ℕ, false, ◌<◌, arith, leb, subst, sym, rules}
use Rattle.std.proofs.lemmas.List.Sorted.{IsPartitionedBy-leb, IsPartitionPoint-from_clause}
use Rattle.plural_reference.specs.Truth.{is_in_ranges}
use Rattle.plural_base.specs.Inner.OrderedRules.{AreOrdered}
use Rattle.plural_base.proofs.choice.OrderedLists.{IsPlace, Ranges, last_tells, none_holds}
use Rattle.plural_base.proofs.rules.ordered.ranges.OrderedRanges.hold.Goals as goal

pub returns-then-count-eq0 : goal.returns-then-count-eq0
returns-then-count-eq0 c =
    let xs : Ranges = c.as_slice-ranges.result.now in
    let count : ℕ = c.partition_point-count.result in
    let same : xs ≡ c.args.self.now = c.as_slice-ranges.ensures.value ∙ c.self.view_is in
    let ordered : AreOrdered xs = subst (λ (l : Ranges). AreOrdered l) (sym c.as_slice-ranges.ensures.value) c.self.invariant in
    let place : IsPlace xs c.args.value count =
    IsPartitionPoint-from_clause (λ (range : ℕ × ℕ). leb range.0 c.args.value) xs count c.partition_point-count.ensures.partitioned
    (IsPartitionedBy-leb (λ (range : ℕ × ℕ). range.0) xs c.args.value ordered.starts) (λ a r q k. search rules) in
    subst (λ (l : Ranges). false ≡ is_in_ranges l c.args.value) same
    (sym (none_holds xs c.args.value (subst (λ (n : ℕ). IsPlace xs c.args.value n) c.if-count-eq0.true place)))

pub returns : goal.returns
returns c =
    let xs : Ranges = c.as_slice-ranges.result.now in
    let count : ℕ = c.partition_point-count.result in
    let same : xs ≡ c.args.self.now = c.as_slice-ranges.ensures.value ∙ c.self.view_is in
    let ordered : AreOrdered xs = subst (λ (l : Ranges). AreOrdered l) (sym c.as_slice-ranges.ensures.value) c.self.invariant in
    let place : IsPlace xs c.args.value count =
    IsPartitionPoint-from_clause (λ (range : ℕ × ℕ). leb range.0 c.args.value) xs count c.partition_point-count.ensures.partitioned
    (IsPartitionedBy-leb (λ (range : ℕ × ℕ). range.0) xs c.args.value ordered.starts) (λ a r q k. search rules) in
    let above : 0 < count = omega (arith, c.if-count-eq0.false) in
    subst (λ (l : Ranges). leb c.args.value c.from.result ≡ is_in_ranges l c.args.value) same
    (last_tells xs c.args.value count c.from.result ordered above c.partition_point-count.ensures.bound place c.from.ensures)
