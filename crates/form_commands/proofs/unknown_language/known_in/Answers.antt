use Rattle.serde_json.specs.View.{view}
use Rattle.form_commands.proofs.UnknownLemmas.{known_told}
use Rattle.form_commands.proofs.unknown_language.known_in.Goals as goal

pub returns-in-Ok : goal.returns-in-Ok
returns-in-Ok c =
    known_told c.args.part c.args.locale.now c.args.bytes.now (view c.in-Ok.document) c.known_by.result c.in-Ok.ensures c.known_by.ensures
