use Rattle.std.proofs.Common.{◌∙◌, ap, sym, subst}
use Rattle.plural_runtime.specs.PackedTruth.{packed_truth}
use Rattle.plural_base.specs.FiveRules.{FiveRules, first_category}
use Rattle.plural_base.specs.Inner.FractionClasses.{IsOfFractions, class_of, is_told_of_fraction}
use Rattle.plural_base.specs.Inner.WholeNumbers.{IsTold, told_category}
use Rattle.plural_base.specs.declared.rules.fractions.Fractions.{Fractions}
use Rattle.plural_base.proofs.rules.prepared.PreparedRules.told_of_fractions.Goals as goal

pub returns-in-Shown-clause-told : goal.returns-in-Shown-clause-told
returns-in-Shown-clause-told c = λ o h.
    let P : FiveRules → Type 0 = λ rules. IsTold (first_category (packed_truth o) rules) c.self.inside.shown in
    let Q : Fractions → Type 0 = λ fractions. IsOfFractions fractions o in
    subst P c.self.view_is (c.self.invariant.2.0 o (subst Q c.in-Shown.is h))

pub returns-in-Shown-clause-all : goal.returns-in-Shown-clause-all
returns-in-Shown-clause-all c = λ o h.
    let Q : Fractions → Type 0 = λ fractions. IsOfFractions fractions o in
    c.self.invariant.5.shown_is o (subst Q c.in-Shown.is h)
    ∙ ap (told_category (is_told_of_fraction 0) o) c.self.view_is
    ∙ sym (ap (λ fractions. told_category (is_told_of_fraction (class_of fractions)) o c.args.self.now) c.in-Shown.is)

pub returns-in-NotZero-clause-told : goal.returns-in-NotZero-clause-told
returns-in-NotZero-clause-told c = λ o h.
    let P : FiveRules → Type 0 = λ rules. IsTold (first_category (packed_truth o) rules) c.self.inside.not_zero in
    let Q : Fractions → Type 0 = λ fractions. IsOfFractions fractions o in
    subst P c.self.view_is (c.self.invariant.2.1 o (subst Q c.in-NotZero.is h))

pub returns-in-NotZero-clause-all : goal.returns-in-NotZero-clause-all
returns-in-NotZero-clause-all c = λ o h.
    let Q : Fractions → Type 0 = λ fractions. IsOfFractions fractions o in
    c.self.invariant.5.not_zero_is o (subst Q c.in-NotZero.is h)
    ∙ ap (told_category (is_told_of_fraction 1) o) c.self.view_is
    ∙ sym (ap (λ fractions. told_category (is_told_of_fraction (class_of fractions)) o c.args.self.now) c.in-NotZero.is)
