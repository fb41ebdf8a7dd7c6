use Rattle.std.proofs.Common.{◌≡◌, ℕ, ◌+◌, List, [], ◌∷◌, ◌++◌, arith, codes, map, take, ap, sym, ◌∙◌, subst}
use Rattle.std.proofs.lemmas.List.{map-append, take_all}
use Rattle.icu_plurals.specs.RuleViews.{lent_relation}
use Rattle.form_commands.specs.CExpressions.{atom_text}
use Rattle.form_commands.specs.RuleConditions.{outside}
use Rattle.form_commands.specs.Inner.ConditionSteps.{Joins}
use Rattle.form_commands.proofs.JoinLemmas.{joins_none, joins_trans, one_mapped}
use Rattle.form_commands.proofs.c_condition.push_outside.Goals as goal

pub loop-place-init : goal.loop-place-init
loop-place-init c = joins_none (codes " && ") c.args.atoms.now

pub loop-place-preserved : goal.loop-place-preserved
loop-place-preserved c =
    let meaning = (lent_relation c.args.relation.now).meaning in
    let place = c.loop-place.place in
    let range = c.range_at.result in
    let before = map atom_text (map (outside meaning.modulus) (take place meaning.ranges)) in
    let all : map atom_text (map (outside meaning.modulus) (take (place + 1) meaning.ranges))
    ≡ before ++ atom_text (outside meaning.modulus range) ∷ [] =
    ap (map atom_text) (one_mapped (outside meaning.modulus) meaning.ranges place range c.range_at.ensures)
    ∙ map-append atom_text (map (outside meaning.modulus) (take place meaning.ranges)) (outside meaning.modulus range ∷ []) in
    let text : c.as_str.result.now ≡ atom_text (outside meaning.modulus range) =
    c.as_str.ensures.value ∙ c.in_ok-text.ensures meaning.modulus c.requires in
    subst (λ (p : List (List ℕ)). Joins (codes " && ") p c.args.atoms.now c.push.new.self) (sym all)
    (joins_trans (codes " && ") before (atom_text (outside meaning.modulus range) ∷ []) c.args.atoms.now c.loop-place.atoms c.push.new.self
    c.loop-place.invariant
    (subst (λ (t : List ℕ). Joins (codes " && ") (t ∷ []) c.loop-place.atoms c.push.new.self) text c.in_ok-push.ensures))

pub returns : goal.returns
returns c =
    let meaning = (lent_relation c.args.relation.now).meaning in
    subst (λ (ranges : List (ℕ × ℕ)). Joins (codes " && ") (map atom_text (map (outside meaning.modulus) ranges)) c.args.atoms.now
    c.loop-place.atoms)
    (take_all c.loop-place.place meaning.ranges (omega arith)) c.loop-place.invariant
