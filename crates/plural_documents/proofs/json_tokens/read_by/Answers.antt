use Rattle.std.proofs.Common.{ℕ, List, map, Err, sym, ap, subst, ◌∙◌}
use Rattle.document_tokens.specs.HeldTokens.{held_token}
use Rattle.document_tokens.specs.TextTokens.{given_names}
use Rattle.plural_documents.specs.Inputs.{json_of}
use Rattle.plural_documents.specs.Outlines.{GivesHeldText}
use Rattle.plural_documents.proofs.JsonTextLemmas.{value_refused}
use Rattle.plural_documents.proofs.TextValues.{fault_given, text_held}
use Rattle.plural_documents.proofs.json_tokens.read_by.Goals as goal

pub returns-in_default : goal.returns-in_default
returns-in_default c = value_refused _ (λ text. absurd (c.in_default.ensures text))

pub returns-in-Err : goal.returns-in-Err
returns-in-Err c =
    let names = given_names c.args.names in
    subst (λ (bytes : List ℕ). GivesHeldText names bytes (Err c.in-Err.fault)) (c.in-Ok.ensures).0
    (fault_given names c.in-Ok.text.now c.in-Err.fault c.in-Err.ensures)

pub invariant_of-result : goal.invariant_of-result
invariant_of-result c =
    let ts = map held_token c.in-Ok-text_tokens.tokens.items in
    (text_held c.in-Ok.text.now (given_names c.args.names) ts (rw ((c.in-Ok.ensures).0) (c.in-Ok.ensures).1) c.in-Ok-text_tokens.ensures).1

pub returns-in-Ok-text_tokens : goal.returns-in-Ok-text_tokens
returns-in-Ok-text_tokens c =
    let names = given_names c.args.names in
    let ts = map held_token c.in-Ok-text_tokens.tokens.items in
    let same = (c.in-Ok.ensures).0 in
    let found = (text_held c.in-Ok.text.now names ts (rw (same) (c.in-Ok.ensures).1) c.in-Ok-text_tokens.ensures).0 in (
      ap (λ (bytes : List ℕ). record { bytes = bytes; names = names }) same,
      (found.0, ap json_of (sym same) ∙ found.1),
    )
