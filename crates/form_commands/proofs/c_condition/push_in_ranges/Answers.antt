use Rattle.std.proofs.Common.{◌≡◌, ℕ, List, [], ◌∷◌, ◌++◌, codes, map, length, ap, sym, subst, ◌∙◌}
use Rattle.icu_plurals.specs.RuleViews.{lent_relation}
use Rattle.form_commands.specs.CExpressions.{Comparison, and_text, atom_text, bracketed, comparison_text, or_text}
use Rattle.form_commands.specs.Inner.ConditionSteps.{Joins}
use Rattle.form_commands.specs.RuleConditions.{in_ranges, inside}
use Rattle.form_commands.proofs.JoinLemmas.{at_ok, compared_texts, several, single}
use Rattle.form_commands.proofs.c_condition.push_in_ranges.Goals as goal

pub returns-then-len-eq1 : goal.returns-then-len-eq1
returns-then-len-eq1 c =
    let meaning = (lent_relation c.args.relation.now).meaning in
    let range = c.range_at.result in
    let one : length meaning.ranges ≡ 1 = sym c.len.ensures ∙ c.if-len-eq1.true in
    let all : meaning.ranges ≡ range ∷ [] = single meaning.ranges range one c.range_at.ensures in
    at_ok {P = Joins (codes " && ") (map comparison_text (inside meaning.modulus range)) c.args.atoms.now c.push_inside.new.atoms}
    {Q = Joins (codes " && ") (map atom_text (in_ranges meaning.modulus meaning.ranges)) c.args.atoms.now c.push_inside.new.atoms}
    c.push_inside.result
    (λ joins. subst (λ (p : List (List ℕ)). Joins (codes " && ") p c.args.atoms.now c.push_inside.new.atoms)
    (sym (ap (λ (ranges : List (ℕ × ℕ)). map atom_text (in_ranges meaning.modulus ranges)) all
    ∙ compared_texts (inside meaning.modulus range)))
    joins) (c.push_inside.ensures meaning.modulus c.requires)

pub returns : goal.returns
returns c =
    let meaning = (lent_relation c.args.relation.now).meaning in
    let many : in_ranges meaning.modulus meaning.ranges ≡ bracketed (map (inside meaning.modulus) meaning.ranges) ∷ [] =
    several meaning.modulus meaning.ranges (λ one. c.if-len-eq1.false (c.len.ensures ∙ one)) in
    let inner =
    or_text (map (λ (all : List Comparison). and_text (map comparison_text all)) (map (inside meaning.modulus) meaning.ranges)) in
    let text : c.as_str.result.now ≡ codes "(" ++ (inner ++ codes ")") =
    c.as_str.ensures.value ∙ c.in_ok-listed.ensures.ok ∙ ap (λ (t : List ℕ). codes "(" ++ (t ++ codes ")")) c.in_ok-ranges.ensures in
    at_ok {P = Joins (codes " && ") (c.as_str.result.now ∷ []) c.args.atoms.now c.push.new.self}
    {Q = Joins (codes " && ") (map atom_text (in_ranges meaning.modulus meaning.ranges)) c.args.atoms.now c.push.new.self}
    c.push.result
    (λ joins. subst (λ (p : List (List ℕ)). Joins (codes " && ") p c.args.atoms.now c.push.new.self)
    (ap (λ (t : List ℕ). t ∷ []) text ∙ sym (ap (map atom_text) many)) joins) c.push.ensures
