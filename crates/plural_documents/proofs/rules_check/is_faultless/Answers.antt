use Rattle.std.proofs.Common.{List, map, sym, ap, subst, ◌∙◌}
use Rattle.std.specs.List.{list_any}
use Rattle.plural_documents.specs.Inner.OutlineSteps.{Holds}
use Rattle.document_tokens.specs.HeldTokens.{Held, held_token}
use Rattle.plural_documents.specs.Inner.RulesPlaces.{is_float}
use Rattle.plural_documents.specs.Outlines.{HeldText}
use Rattle.plural_documents.proofs.RightTokens.{on_right}
use Rattle.plural_documents.proofs.RulesMeant.{faultless}
use Rattle.plural_documents.proofs.rules_check.is_faultless.Goals as goal

pub returns : goal.returns
returns c =
    let all = ap (map held_token) (sym c.as_slice-2.ensures.value) ∙ sym c.of-left.ensures in
    on_right c.is_right_below.result
    (faultless c.args.text.now c.of-left.result _
    (subst (λ (us : List Held). Holds c.args.text.now us) all
    (subst (λ (text : HeldText). Holds text (map held_token c.text.inside.tokens.items)) c.text.view_is c.text.invariant))
    (ap (list_any is_float) (sym all ∙ ap (map held_token) (sym c.as_slice.ensures.value)) ∙ sym c.has_float.ensures
    ∙ c.if-has_float.false))
    c.is_right_below.ensures.right
