use Rattle.std.proofs.Common.{ℕ, subst, sym, rules}
use Rattle.std.proofs.lemmas.List.Sorted.{IsNonDecreasingBy-from_sort_by_key}
use Rattle.std.specs.List.Sorted.{IsNonDecreasingBy, IsPermutation}
use Rattle.plural_base.proofs.choice.OrderedLists.{Ranges, after_sorting}
use Rattle.plural_base.proofs.rules.ordered.ranges.OrderedRanges.of.Goals as goal

pub without_covered-requires : goal.without_covered-requires
without_covered-requires c =
    let sorted : IsNonDecreasingBy (λ (range : ℕ × ℕ). range.0) c.sort_unstable_by_key.new.self.items =
    IsNonDecreasingBy-from_sort_by_key (λ (range : ℕ × ℕ). range.0) c.sort_unstable_by_key.new.self.items
    c.sort_unstable_by_key.ensures.sorted (λ a r q k. search rules) in
    subst (λ (ranges : Ranges). IsNonDecreasingBy (λ (range : ℕ × ℕ). range.0) ranges) (sym c.as_slice.ensures.value) sorted

pub returns : goal.returns
returns c =
    let moved : IsPermutation c.args.ranges.items c.as_slice.result.now =
    subst (λ (ranges : Ranges). IsPermutation c.args.ranges.items ranges) (sym c.as_slice.ensures.value)
    c.sort_unstable_by_key.ensures.permutation in
    after_sorting c.without_covered.result c.args.ranges.items c.as_slice.result.now moved c.without_covered.ensures
