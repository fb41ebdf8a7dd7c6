use Rattle.document_tokens.specs.TextTokens.{given_names}
use Rattle.document_tokens.proofs.TextLemmas.{tokens_given}
use Rattle.document_tokens.proofs.read_tokens.text_tokens.Goals as goal

pub returns-in-Ok : goal.returns-in-Ok
returns-in-Ok c =
    tokens_given (given_names c.args.names) c.args.text.now _ c.read_tokens.result c.in-Ok.ensures.ok c.read_tokens.ensures.ok
    c.read_tokens.ensures.json c.read_tokens.ensures.memory
