use Rattle.serde_json.specs.View.{view}
use Rattle.form_commands.proofs.FoundBytes.{under_if_ok}
use Rattle.form_commands.proofs.fault_byte.byte_under.Goals as goal

pub returns-in-Some : goal.returns-in-Some
returns-in-Some c =
    under_if_ok (view c.args.value.now) c.args.category c.args.kind c.in-Some.text.now c.byte_in.result c.in-Some.ensures c.byte_in.ensures
