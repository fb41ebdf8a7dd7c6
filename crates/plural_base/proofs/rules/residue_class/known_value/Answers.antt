use Rattle.std.proofs.Common.{◌∙◌, ℕ, ap, sym, subst}
use Rattle.std.specs.Prelude.{◌||◌}
use Rattle.std.specs.List.{list_all}
use Rattle.plural_reference.specs.Truth.{remainder}
use Rattle.plural_base.specs.Inner.WholeNumbers.{Fits}
use Rattle.plural_base.specs.ToldCategories.{divides_100, is_of_number, is_outside}
use Rattle.plural_base.proofs.integers.Lists.{remainder_zero, whole_self, whole_zero}
use Rattle.plural_base.proofs.integers.Moduli.{told_of_number, told_of_zero}
use Rattle.plural_base.proofs.rules.residue_class.known_value.Goals as goal

pub returns-then-is_of_number : goal.returns-then-is_of_number
returns-then-is_of_number c =
    let is = sym c.is_of_number.ensures ∙ c.if-is_of_number.true in
    record {
      fits = λ class n h.
          (let P : ℕ → Type 0 = λ value. Fits c.known_remainder.result class (remainder c.args.modulus value) in
          subst P (whole_self _ n is) (c.known_remainder.ensures.fits class n h));
      told = λ class relation operand modulus.
          (let list = c.known_remainder.ensures.told class relation.meaning.ranges in
          told_of_number c.args.bound class relation _ (ap is_of_number operand ∙ is)
          (list ∙ sym (ap (λ m. divides_100 m || list_all (is_outside c.args.bound class m) relation.meaning.ranges) modulus)));
    }

pub returns-else-is_of_number : goal.returns-else-is_of_number
returns-else-is_of_number c =
    let is = sym c.is_of_number.ensures ∙ c.if-is_of_number.false in
    record {
      fits = λ class n h. ap (remainder c.args.modulus) (whole_zero _ n is) ∙ remainder_zero c.args.modulus;
      told = λ class relation operand modulus. told_of_zero c.args.bound class relation (ap is_of_number operand ∙ is);
    }
