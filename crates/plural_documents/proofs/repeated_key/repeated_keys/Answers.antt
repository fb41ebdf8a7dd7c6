use Rattle.std.proofs.Common.{◌≡◌, List, [], ◌++◌, Some, map, sym, ap, subst, ◌∙◌}
use Rattle.document_tokens.specs.HeldTokens.{held_token, held_tokens}
use Rattle.plural_documents.specs.RepeatedKeys.{AreRepeatedIn, repeated_view}
use Rattle.plural_documents.specs.declared.repeated_key.RepeatedKey.{RepeatedKey}
use Rattle.plural_documents.proofs.TextValues.{none_left}
use Rattle.plural_documents.proofs.repeated_key.repeated_keys.Goals as goal

pub returns-in-Ok : goal.returns-in-Ok
returns-in-Ok c =
    let given = c.in_ok-tokens.ensures in
    let value = given.0 in
    let all : c.of-left.result ≡ held_tokens value ++ [] =
    c.of-left.ensures ∙ ap (map held_token) c.as_slice.ensures.value ∙ given.2 ∙ sym (none_left (held_tokens value)) in
    let found = (c.in-Ok.ensures.found value [] all).1 in
    let same = found.2 ∙ ap (λ (old : List RepeatedKey). map repeated_view old ++ found.0) c.new-found.ensures.items in
    (value, given.1, subst (AreRepeatedIn (Some []) value) (sym same) found.1)
