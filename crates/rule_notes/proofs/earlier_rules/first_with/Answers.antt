use Rattle.std.proofs.Common.{◌≡◌, ◌≢◌, List, inr, subst, sym, ◌∙◌}
use Rattle.std.proofs.lemmas.Bool.{MatchBool-at_false}
use Rattle.std.specs.Cmp.Lexicographic.{told_text}
use Rattle.plural_reference.specs.Serializer.{condition_text}
use Rattle.rule_notes.specs.EarlierRules.{HasFirstText}
use Rattle.rule_notes.specs.declared.category_rule.CategoryRule.{CategoryRule}
use Rattle.rule_notes.proofs.earlier_rules.first_with.Goals as goal

pub loop-first-preserved : goal.loop-first-preserved
loop-first-preserved c category h =
    let shown = c.as_str.result.now in
    let text = c.args.text.now in
    let other : shown ≢ text = MatchBool-at_false (shown ≡ text) (shown ≢ text) c.if-eq.false (told_text shown text c.eq.result c.eq.ensures) in
    let is : shown ≡ condition_text c.in-Some.first.now.condition = c.as_str.ensures.value ∙ c.in_ok-printed.ensures in
    c.loop-first.invariant category
    (subst (λ (rules : List CategoryRule). HasFirstText rules text category) (sym c.in-Some.ensures.cases.0) (inr (λ same. other (is ∙ same), h)))
