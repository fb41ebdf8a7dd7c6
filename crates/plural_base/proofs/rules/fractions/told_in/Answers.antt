use Rattle.std.proofs.Common.{subst}
use Rattle.std.specs.Prelude.{option_map}
use Rattle.plural_operands.specs.declared.operand.Operand.{Operand}
use Rattle.plural_reference.specs.Truth.{holds_value, remainder}
use Rattle.plural_operands.specs.Operands.{operand_value}
use Rattle.plural_runtime.specs.Inner.RuleViews.{lent_relation}
use Rattle.plural_base.specs.Inner.FractionClasses.{is_value_told}
use Rattle.plural_base.specs.Inner.WholeNumbers.{IsToldIf}
use Rattle.plural_base.proofs.rules.fractions.told_in.Goals as goal

pub returns-in-V : goal.returns-in-V
returns-in-V c = λ class o within h.
    let meaning = (lent_relation c.args.relation.now).meaning in
    let P : Operand → Type 0 = λ operand. IsToldIf class (is_value_told class operand meaning)
    (holds_value meaning.ranges (option_map (remainder meaning.modulus) (operand_value operand o))) c.told_places.result in
    subst P c.in-V.ensures (c.told_places.ensures class o.v within h.places)

pub returns-in-N : goal.returns-in-N
returns-in-N c = λ class o within h.
    let meaning = (lent_relation c.args.relation.now).meaning in
    let P : Operand → Type 0 = λ operand. IsToldIf class (is_value_told class operand meaning)
    (holds_value meaning.ranges (option_map (remainder meaning.modulus) (operand_value operand o))) c.told_whole.result in
    subst P c.in-N.ensures (c.told_whole.ensures class o meaning.ranges meaning.modulus h)
