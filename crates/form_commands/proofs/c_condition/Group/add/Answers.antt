use Rattle.std.proofs.Common.{◌≡◌, List, [], ◌∷◌, ◌++◌, Bool, true, false, codes, map, ap, sym, ◌∙◌, refl}
use Rattle.std.specs.Prelude.{◌&&◌}
use Rattle.icu_plurals.specs.PackedRelations.{PackedRelation}
use Rattle.icu_plurals.specs.RuleViews.{lent_relation}
use Rattle.form_commands.specs.CExpressions.{atom_text}
use Rattle.form_commands.specs.Inner.ConditionSteps.{IsGroup, Joins}
use Rattle.form_commands.specs.RuleConditions.{atoms_under, is_whole_operand}
use Rattle.form_commands.specs.declared.c_condition.Group.{Group}
use Rattle.form_commands.proofs.JoinLemmas.{at_ok, of_another, of_number}
use Rattle.form_commands.proofs.c_condition.Group.add.Goals as goal

pub returns-then-is_of_number : goal.returns-then-is_of_number
returns-then-is_of_number c =
    let r = lent_relation c.args.relation.now in
    let old = c.args.self.now in
    let new : Group = record old { atoms = c.push_relation.new.atoms } in
    let number : is_whole_operand r.meaning.operand ≡ true =
    ap is_whole_operand (sym c.operand.ensures) ∙ sym c.is_of_number.ensures ∙ c.if-is_of_number.true in
    at_ok {P =
    Joins (codes " && ") (map atom_text (atoms_under r.meaning.operator r.meaning.modulus r.meaning.ranges)) old.atoms
    c.push_relation.new.atoms}
    {Q = (group : List PackedRelation) → IsGroup group old → IsGroup (group ++ r ∷ []) new} c.push_relation.result
    (λ joins group is. of_number r group old new number joins refl is) c.push_relation.ensures

pub returns : goal.returns
returns c =
    let r = lent_relation c.args.relation.now in
    let old = c.args.self.now in
    let new : Group = record old { is_possible = c.both-self.result } in
    let other : is_whole_operand r.meaning.operand ≡ false =
    ap is_whole_operand (sym c.operand.ensures) ∙ sym c.is_of_number.ensures ∙ c.if-is_of_number.false in
    λ group is. of_another r group old new other refl
    (c.both-self.ensures ∙ ap (λ (b : Bool). old.is_possible && b) c.is_true_of_zero-is_true.ensures) is
