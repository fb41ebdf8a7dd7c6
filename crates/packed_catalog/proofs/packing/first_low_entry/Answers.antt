use Rattle.std.proofs.Common.{◌≡◌, ℕ, List, [], suc, ◌-◌, get_or, arith, inl, inr, subst, sym, ◌∙◌, true, false}
use Rattle.std.proofs.lemmas.Bool.{cases_lt}
use Rattle.std.specs.Cmp.Lexicographic.{slice_cmp}
use Rattle.std.specs.declared.cmp.Ordering.TheVariants.{Less}
use Rattle.std.specs.Ordering.{nat_cmp}
use mathlib.Core.Bool.{true≢false}
use Rattle.packed_catalog.specs.CatalogBytes.{entry_keys_of, lent_entries}
use Rattle.packed_catalog.specs.CatalogFaults.{IsFirst, IsLowKey}
use Rattle.packed_catalog.proofs.EntriesOrder.{keys_compared, length-lent, sorted_from_rising}
use Rattle.packed_catalog.proofs.FirstFaults.{first_low}
use Rattle.packed_catalog.proofs.packing.first_low_entry.Goals as goal

pub returns-then-not-is_below-clause-some : goal.returns-then-not-is_below-clause-some
returns-then-not-is_below-clause-some c =
    let entries = c.args.entries.now in
    let key : ℕ → List ℕ = λ k. get_or (entry_keys_of (lent_entries entries)) k [] in
    let i : ℕ = c.loop-index.index in
    let e : i ≡ suc (i - 1) = omega (arith, c.loop-index.auto.index) in
    let same = keys_compared entries i _ c.loop-index.auto.index c.loop-index-test.true in
    let low = λ (less : slice_cmp nat_cmp (key (i - 1)) (key i) ≡ Less).
    let t = c.is_below.ensures.1 (same ∙ less) in
    let b : true ≡ false = sym t ∙ c.if-not-is_below.true in
    true≢false b in (
      omega (arith, length-lent entries),
      subst (IsFirst (IsLowKey key)) (sym e)
          (first_low key (i - 1) (λ k l. c.loop-index.invariant k (omega (arith, l)))
          (λ less. low (subst (λ j. slice_cmp nat_cmp (key (i - 1)) (key j) ≡ Less) (sym e) less))),
    )

pub loop-index-preserved : goal.loop-index-preserved
loop-index-preserved c = λ k l.
    let entries = c.args.entries.now in
    let key : ℕ → List ℕ = λ k. get_or (entry_keys_of (lent_entries entries)) k [] in
    let i : ℕ = c.loop-index.index in
    elim (cases_lt (suc k) i) [
      | inl before ↦ c.loop-index.invariant k before
      | inr here ↦
          let e : i ≡ suc k = omega arith in
          let f : i - 1 ≡ k = omega arith in
          let less : slice_cmp nat_cmp (key (i - 1)) (key i) ≡ Less =
          sym (keys_compared entries i _ c.loop-index.auto.index c.loop-index-test.true) ∙ c.is_below.ensures.0 c.if-not-is_below.false in
          subst (λ j. slice_cmp nat_cmp (key j) (key (suc k)) ≡ Less) f (subst (λ j. slice_cmp nat_cmp (key (i - 1)) (key j) ≡ Less) e less)
    ]

pub returns-clause-none : goal.returns-clause-none
returns-clause-none c =
    let entries = c.args.entries.now in
    sorted_from_rising (lent_entries entries) (λ k l. c.loop-index.invariant k (omega (arith, l, length-lent entries, c.loop-index-test.false)))
