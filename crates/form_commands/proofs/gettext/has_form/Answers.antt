use Rattle.std.proofs.Common.{sym, ◌∙◌}
use Rattle.form_commands.proofs.GettextLemmas.{power_match}
use Rattle.form_commands.proofs.gettext.has_form.Goals as goal

pub returns : goal.returns
returns c =
    power_match c.args.rules.now c.args.category c.args.least c.has_power.result c.requires
    (sym c.is_some.ensures ∙ c.if-is_some.false) c.has_power.ensures
