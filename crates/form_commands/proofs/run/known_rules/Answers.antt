use Rattle.std.proofs.Common.{sym, ◌∙◌}
use Rattle.form_commands.proofs.UnknownLemmas.{another_given, known_given, unknown_given}
use Rattle.form_commands.proofs.run.known_rules.Goals as goal

pub returns-then-not-has_roots_key : goal.returns-then-not-has_roots_key
returns-then-not-has_roots_key c served =
    another_given c.args.part c.args.locale.now c.args.bytes.now c.args.kept served
    (sym c.has_roots_key.ensures ∙ c.if-not-has_roots_key.true)

pub returns-in-Ok : goal.returns-in-Ok
returns-in-Ok c served = known_given c.args.part c.args.locale.now c.args.bytes.now c.args.kept served c.in-Ok.ensures

pub returns-in-Err : goal.returns-in-Err
returns-in-Err c served =
    unknown_given c.args.part c.args.locale.now c.args.bytes.now c.args.kept served c.in-Err.error
    (sym c.has_roots_key.ensures ∙ c.if-not-has_roots_key.false) c.in-Err.ensures
