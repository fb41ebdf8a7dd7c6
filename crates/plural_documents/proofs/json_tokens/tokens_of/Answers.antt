use Rattle.std.proofs.Common.{ℕ, List, subst}
use Rattle.plural_documents.specs.Inner.OutlineSteps.{GivesTokens}
use Rattle.plural_documents.proofs.JsonTextLemmas.{value_refused}
use Rattle.plural_documents.proofs.TextValues.{tokens_given}
use Rattle.plural_documents.proofs.json_tokens.tokens_of.Goals as goal

pub returns-in-Ok : goal.returns-in-Ok
returns-in-Ok c =
    subst (λ (bytes : List ℕ). GivesTokens bytes c.text_tokens.result) (c.in-Ok.ensures).0
    (tokens_given c.in-Ok.text.now c.text_tokens.result (rw ((c.in-Ok.ensures).0) (c.in-Ok.ensures).1) c.text_tokens.ensures)

pub returns-in-Err : goal.returns-in-Err
returns-in-Err c = value_refused _ (λ text. absurd (c.in-Err.ensures text))
