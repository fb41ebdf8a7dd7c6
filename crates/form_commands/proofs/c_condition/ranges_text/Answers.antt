use Rattle.std.proofs.Common.{◌≡◌, ℕ, ◌+◌, List, [], ◌∷◌, ◌++◌, arith, codes, map, string_bytes, take, ap, sym, ◌∙◌, subst}
use Rattle.std.proofs.lemmas.List.{map-append, take_all}
use Rattle.std.proofs.lemmas.Result.{IfOk-weaker}
use Rattle.icu_plurals.specs.RuleViews.{lent_relation}
use Rattle.form_commands.specs.CExpressions.{Comparison, and_text, comparison_text, or_text}
use Rattle.form_commands.specs.RuleConditions.{inside}
use Rattle.form_commands.specs.Inner.ConditionSteps.{AreJoined}
use Rattle.form_commands.proofs.JoinLemmas.{one_mapped}
use Rattle.form_commands.proofs.c_condition.ranges_text.Goals as goal

pub loop-place-init : goal.loop-place-init
loop-place-init c = c.new-texts.ensures (codes " || ")

pub loop-place-preserved : goal.loop-place-preserved
loop-place-preserved c =
    let meaning = (lent_relation c.args.relation.now).meaning in
    let place = c.loop-place.place in
    let range = c.range_at.result in
    let text = λ (all : List Comparison). and_text (map comparison_text all) in
    let before = map text (map (inside meaning.modulus) (take place meaning.ranges)) in
    let all : map text (map (inside meaning.modulus) (take (place + 1) meaning.ranges))
    ≡ before ++ text (inside meaning.modulus range) ∷ [] =
    ap (map text) (one_mapped (inside meaning.modulus) meaning.ranges place range c.range_at.ensures)
    ∙ map-append text (map (inside meaning.modulus) (take place meaning.ranges)) (inside meaning.modulus range ∷ []) in
    let here : c.as_str.result.now ≡ text (inside meaning.modulus range) =
    c.as_str.ensures.value ∙ c.in_ok-text.ensures meaning.modulus c.requires in
    subst (λ (p : List (List ℕ)). AreJoined (codes " || ") p c.push.new.self)
    (ap (λ (t : List ℕ). before ++ t ∷ []) here ∙ sym all)
    (c.in_ok-push.ensures before c.loop-place.invariant)

pub returns : goal.returns
returns c =
    let meaning = (lent_relation c.args.relation.now).meaning in
    let text = λ (all : List Comparison). and_text (map comparison_text all) in
    let pieces = map text (map (inside meaning.modulus) meaning.ranges) in
    let joined : AreJoined (codes " || ") pieces c.loop-place.texts =
    subst (λ (ranges : List (ℕ × ℕ)). AreJoined (codes " || ") (map text (map (inside meaning.modulus) ranges)) c.loop-place.texts)
    (take_all c.loop-place.place meaning.ranges (omega arith)) c.loop-place.invariant in
    IfOk-weaker c.from_str.result (λ s. string_bytes s ≡ c.or_text.result.now) (λ s. string_bytes s ≡ or_text pieces)
    (λ s wrote. wrote ∙ c.or_text.ensures pieces joined) c.from_str.ensures.ok
