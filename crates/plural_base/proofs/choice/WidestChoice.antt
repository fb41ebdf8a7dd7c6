-- Rules by a modulus that the bound doesn't admit.
use Rattle.std.proofs.Common.{◌≡◌, ℕ, ◌*◌, ◌%◌, ◌^◌, ◌<◌, Bool, true, false, refl, ap, ◌∙◌, arith, Ok, nat_lt}
use Rattle.std.specs.Prelude.{◌&&◌, ◌||◌, if◌then◌else◌}
use Rattle.std.proofs.Math.Nat.{mod-lt}
use Rattle.std.proofs.lemmas.Bool.{le-ltb}
use Rattle.plural_reference.specs.ExactnessLaws.{BoundIsWidest, left_of_twice}
use Rattle.plural_reference.specs.Exactness.{exact_truth, exact_relation_truth}
use Rattle.plural_operands.specs.Operands.{Operands}
use Rattle.plural_reference.specs.Truth.{relation_truth}
use Rattle.plural_runtime.specs.PackedTree.{packed, has_large_value, packing}
use Rattle.plural_runtime.specs.PackedTruth.{packed_truth}
use Rattle.plural_base.specs.declared.category.PluralCategory.TheVariants.{One, Other}
use Rattle.plural_base.specs.ChoiceLaws.{only_one, leaves, alone, BoundIsWidestForChoice}
use Rattle.plural_base.specs.FiveRules.{first_category}

-- one group of one relation is true if the relation is
test_alone : (b : Bool) → ((b && true) || false) ≡ b
test_alone true = refl
test_alone false = refl

-- rules with a rule for one only choose it if its test passes
chosen_one : {A : Type 0} (test : A → Bool) (thing : A) (truth : Bool) → test thing ≡ truth
    → first_category test (only_one thing) ≡ (if truth then One else Other)
chosen_one test thing truth same = ap (λ b. if b then One else Other) same

-- the only rule is true of the exact number if its relation is
exact_at : (exact : Operands) (m : ℕ)
    → exact_truth exact (alone (leaves m (2 * 10 ^ 18 % m))) ≡ exact_relation_truth exact (left_of_twice m)
exact_at exact m = test_alone (exact_relation_truth exact (left_of_twice m))

-- the packed rule is true of the kept operands if its relation is
kept_at : (kept : Operands) (m : ℕ)
    → packed_truth kept (packed (alone (leaves m (2 * 10 ^ 18 % m)))) ≡ relation_truth kept (left_of_twice m)
unfolding packed_truth packed
kept_at kept m = test_alone (relation_truth kept (left_of_twice m))

-- if neither value is large, none in the condition is
none_large : (a b : Bool) → a ≡ false → b ≡ false → (((a || (b || false)) || false) || false) ≡ false
none_large a b e f = rw (e, f) refl

-- neither the modulus nor the remainder is above 32 bits
small : (m r : ℕ) → m < 2 ^ 32 → r < 2 ^ 32 → has_large_value (alone (leaves m r)) ≡ false
unfolding has_large_value
small m r h k =
    none_large (nat_lt 4294967295 m) (nat_lt 4294967295 r) (le-ltb 4294967295 m (omega (arith, h)))
    (le-ltb 4294967295 r (omega (arith, k)))

-- a condition without large values packs to its relations
packs_small : (m r : ℕ) → has_large_value (alone (leaves m r)) ≡ false → packing (alone (leaves m r)) ≡ Ok (packed (alone (leaves m r)))
unfolding packing packed
packs_small m r h = rw h refl

-- from the law on relations to the choice of five rules
pub widest_choice : BoundIsWidest → BoundIsWidestForChoice
widest_choice widest m x kept exact above below apart twice cut are_exact =
    let law = widest m x kept exact above apart twice cut are_exact in
    let r = 2 * 10 ^ 18 % m in
    let left : r < m = mod-lt (2 * 10 ^ 18) above in
    record {
      packs = packs_small m r (small m r below (omega (arith, left, below)));
      for_exact = chosen_one (exact_truth exact) (alone (leaves m r)) true (exact_at exact m ∙ law.0);
      for_kept = chosen_one (packed_truth kept) (packed (alone (leaves m r))) false (kept_at kept m ∙ law.1);
    }
