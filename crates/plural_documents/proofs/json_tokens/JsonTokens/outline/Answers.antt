use Rattle.std.proofs.Common.{List, [], map, sym, ap, subst, ◌∙◌}
use Rattle.plural_documents.specs.Inner.OutlineSteps.{Holds}
use Rattle.document_tokens.specs.HeldTokens.{Held, held_token, held_tokens}
use Rattle.plural_documents.specs.Outlines.{HeldText}
use Rattle.plural_documents.proofs.HeldLemmas.{no_value}
use Rattle.plural_documents.proofs.TextValues.{none_left, outline_given}
use Rattle.plural_documents.proofs.json_tokens.JsonTokens.outline.Goals as goal

pub returns-in-Some : goal.returns-in-Some
returns-in-Some g c =
    let first = ap (map held_token) (sym c.as_slice.ensures.value) ∙ sym c.of-left.ensures ∙ c.in-Some.ensures in
    outline_given g.S.Sieve.keeps c.args.sieve c.args.self.now _ c.outlined.new.left c.outlined.result
    (subst (λ (us : List Held). Holds c.args.self.now us) first
    (subst (λ (text : HeldText). Holds text (map held_token c.self.inside.tokens.items)) c.self.view_is c.self.invariant))
    c.outlined.ensures.outlined

pub returns-in-None : goal.returns-in-None
returns-in-None g c =
    let none = ap (map held_token) (sym c.as_slice.ensures.value) ∙ sym c.of-left.ensures ∙ c.in-None.ensures.0 in
    let value = c.self.invariant.2 in
    absurd (no_value value.0 [] (sym none ∙ value.1 ∙ sym (none_left (held_tokens value.0))))
