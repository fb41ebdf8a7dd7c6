use Rattle.plural_documents.proofs.JsonTextLemmas.{some_bytes}
use Rattle.plural_documents.proofs.TextValues.{outline_of_all}
use Rattle.plural_documents.proofs.outline.json_outline.Goals as goal

pub returns : goal.returns
returns g c =
    let found = (c.in_ok-text.ensures).1 in some_bytes c.args.bytes.now found.0 found.1

pub returns-in-Ok : goal.returns-in-Ok
returns-in-Ok g c =
    outline_of_all g.S.Sieve.keeps c.args.sieve c.in_ok-text.text c.args.bytes.now c.in-Ok.value (c.in_ok-text.ensures).0 c.in-Ok.ensures
