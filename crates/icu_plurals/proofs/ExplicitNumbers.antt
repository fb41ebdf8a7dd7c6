-- Within the bound, the kept operands of a number are exactly 0, or exactly 1, if the exact
-- operands are.
use Rattle.std.proofs.Common.{◌≡◌, ℕ, ◌<◌, List, [], ◌∷◌, false, arith, sym, ◌∙◌, lit<}
use Rattle.std.specs.Prelude.{◌==◌, ◌&&◌, ◌||◌, nat_le, None, if◌then◌else◌}
use Rattle.std.proofs.lemmas.Bool.Decides.{nat_tests}
use Rattle.fixed_decimal.specs.Places.{Places}
use Rattle.plural_operands.specs.declared.operand.Operand.{Operand}
use Rattle.plural_operands.specs.declared.operand.Operand.TheVariants.{I, V, W, F, T, C}
use Rattle.plural_reference.specs.declared.ast.Operator.TheVariants.{Eq}
use Rattle.plural_reference.specs.Exactness.{IsAdmitted, IsListed, exact_relation_truth}
use Rattle.plural_reference.specs.ExactnessLaws.{IsKept, RelationsAgree}
use Rattle.plural_operands.specs.Operands.{Operands, kept_limit}
use Rattle.plural_reference.specs.Truth.{RelationMeaning, relation_truth}
use Rattle.icu_plurals.specs.Elements.{Elements, is_exactly, explicit_at}

-- the relation that says that an operand is n
abbrev equals : Operand → ℕ → RelationMeaning
equals operand n = record { operand = operand; modulus = 0; operator = Eq; ranges = (n, n) ∷ [] }

-- what such a relation tests
equal_from_ends : (n a : ℕ) → ((nat_le n a && nat_le a n) || false) ≡ (a == n)
equal_from_ends n a = grind (arith, nat_tests)

-- numbers on which one relation agrees are both n, or neither is
same_test : (n a b : ℕ) → ((nat_le n a && nat_le a n) || false) ≡ ((nat_le n b && nat_le b n) || false) → (a == n) ≡ (b == n)
same_test n a b e = sym (equal_from_ends n a) ∙ e ∙ equal_from_ends n b

module _ (agree : RelationsAgree) (x : Places) (e : ℕ) (moduli : List ℕ) (kept exact : Operands) (is : IsKept x e moduli kept exact) where
  -- a relation that says so is true of the kept operands exactly if it is true of the exact ones
  equals_alike : (operand : Operand) (n : ℕ) → n < kept_limit → IsListed operand 0 moduli
      → relation_truth kept (equals operand n) ≡ exact_relation_truth exact (equals operand n)
  equals_alike operand n small listed =
      let admitted : IsAdmitted moduli (equals operand n) = record { listed = listed; ends = (small, tt) } in
      agree x e moduli kept exact (equals operand n) is admitted

  -- the kept operands are exactly a small n if the exact ones are
  is_exactly-exact : (n : ℕ) → n < kept_limit → is_exactly n kept ≡ is_exactly n exact
  is_exactly-exact n small =
      let none : 0 < kept_limit = omega (arith, small) in
      let i = same_test n kept.i exact.i (equals_alike I n small (λ h. absurd (omega (arith, h)))) in
      let v = same_test 0 kept.v exact.v (equals_alike V 0 none tt) in
      let w = same_test 0 kept.w exact.w (equals_alike W 0 none tt) in
      let f = same_test 0 kept.f exact.f (equals_alike F 0 none tt) in
      let t = same_test 0 kept.t exact.t (equals_alike T 0 none tt) in
      let c = same_test 0 kept.c exact.c (equals_alike C 0 none tt) in
      λ k. i k && v k && w k && f k && t k && c k

  -- so the explicit value is the same
  pub explicit_at-exact : {A : Type 0} (elements : Elements A) → explicit_at elements kept ≡ explicit_at elements exact
  explicit_at-exact elements =
      let zero = is_exactly-exact 0 (lit< tt) in
      let one = is_exactly-exact 1 (lit< tt) in
      λ k. if zero k then elements.explicit_zero else (if one k then elements.explicit_one else None)
