use Rattle.std.proofs.Common.{◌≡◌, ℕ, ◌+◌, ◌≤◌, ◌++◌, length, drop, arith, string_bytes, subst, ◌∙◌}
use Rattle.std.proofs.lemmas.Option.{get_or_from_slice_get}
use Rattle.icu_plurals.specs.FiveRules.{rules_of}
use Rattle.form_commands.specs.CExpressions.{choice_text}
use Rattle.form_commands.specs.GettextLines.{conditions_of}
use Rattle.form_commands.proofs.GettextLemmas.{choice_ended, choice_grown}
use Rattle.form_commands.proofs.gettext.choice_text.Goals as goal

pub loop-place-preserved : goal.loop-place-preserved
loop-place-preserved c =
    let form = c.form_at.result in
    choice_grown (rules_of c.args.five.now) c.args.forms.now c.loop-place.place form (string_bytes c.loop-place.text) c.as_str.result.now
    (string_bytes c.push_str.new.self) (omega arith)
    (get_or_from_slice_get c.args.forms.now c.loop-place.place form form c.form_at.ensures) c.loop-place.invariant
    (c.as_str.ensures.value ∙ c.in_ok-choice.ensures) c.in_ok-push_str.ensures.bytes

pub returns : goal.returns
returns c =
    let rules = rules_of c.args.five.now in
    let forms = c.args.forms.now in
    let last = c.saturating_sub-last.result in
    let same : c.loop-place.place ≡ last = omega arith in
    let short : length forms ≤ last + 1 = omega arith in
    choice_ended rules forms last (string_bytes c.loop-place.text) c.as_str-2.result.now (string_bytes c.push_str-2.new.self) short
    (subst (λ (place : ℕ). string_bytes c.loop-place.text ++ choice_text place (conditions_of rules (drop place forms))
    ≡ choice_text 0 (conditions_of rules forms)) same c.loop-place.invariant)
    (c.as_str-2.ensures.value ∙ c.in_ok-end.ensures.ok) c.in_ok-push_str-2.ensures.bytes
