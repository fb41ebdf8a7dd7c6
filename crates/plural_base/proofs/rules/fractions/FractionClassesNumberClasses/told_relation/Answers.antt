use Rattle.std.proofs.Common.{ap, refl}
use Rattle.std.specs.Prelude.{option_map}
use Rattle.plural_reference.specs.Truth.{holds_value, remainder, under}
use Rattle.plural_operands.specs.Operands.{operand_value}
use Rattle.plural_runtime.specs.Inner.RuleViews.{lent_relation}
use Rattle.plural_base.specs.Inner.FractionClasses.{is_told_of_fraction}
use Rattle.plural_base.proofs.integers.Told.{told_if_as}
use Rattle.plural_base.proofs.rules.fractions.FractionClassesNumberClasses.told_relation.Goals as goal

pub returns : goal.returns
unfolding is_told_of_fraction
returns c = λ class o within h.
    let meaning = (lent_relation c.args.relation.now).meaning in
    let is_in = holds_value meaning.ranges (option_map (remainder meaning.modulus) (operand_value meaning.operand o)) in
    told_if_as class _ _ _ _ c.under_polarity.result refl (ap (λ operator. under operator is_in) c.polarity.ensures)
    (c.under_polarity.ensures class _ is_in (c.told_in.ensures class o within h))
