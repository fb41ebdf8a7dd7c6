use Rattle.std.proofs.Common.{◌≡◌, ◌∙◌, ℕ, refl, sym, ap, subst, arith, false}
use Rattle.std.specs.Prelude.{◌==◌, ◌&&◌, nat_lt}
use Rattle.std.specs.List.{list_all}
use Rattle.plural_reference.specs.Truth.{is_in_ranges, remainder}
use Rattle.plural_runtime.specs.Inner.RuleViews.{lent_relation}
use Rattle.plural_base.specs.Inner.WholeNumbers.{IsToldIf}
use Rattle.plural_base.proofs.integers.Bits.{differs}
use Rattle.plural_base.proofs.integers.Told.{told_if_as}
use Rattle.plural_base.proofs.rules.fractions.told_places.Goals as goal

pub returns-then-modulo-eq0 : goal.returns-then-modulo-eq0
returns-then-modulo-eq0 c = λ class count within above.
    let meaning = (lent_relation c.args.relation.now).meaning in
    let none : 0 ≡ meaning.modulus = sym c.if-modulo-eq0.true ∙ c.modulo.ensures in
    let P : ℕ → Type 0 = λ m.
    IsToldIf class ((m == 0) && list_all (λ range. nat_lt range.1 1) meaning.ranges) (is_in_ranges meaning.ranges (remainder m count)) c.told_list.result in
    subst P none (c.told_list.ensures class count within (omega (arith, above)))

pub returns-else-modulo-eq0 : goal.returns-else-modulo-eq0
returns-else-modulo-eq0 c = λ class count within above.
    let meaning = (lent_relation c.args.relation.now).meaning in
    let none : (meaning.modulus == 0) ≡ false = differs meaning.modulus 0 (λ is. c.if-modulo-eq0.false (c.modulo.ensures ∙ is)) in
    told_if_as class false _ (is_in_ranges meaning.ranges (remainder meaning.modulus count)) _ c.untold.result
    (sym (ap (λ b. b && list_all (λ range. nat_lt range.1 1) meaning.ranges) none)) refl (c.untold.ensures class)
