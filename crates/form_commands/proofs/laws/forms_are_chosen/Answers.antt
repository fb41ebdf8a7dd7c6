use Rattle.form_commands.proofs.GettextLemmas.{forms_chosen}
use Rattle.form_commands.proofs.laws.forms_are_chosen.Goals as goal

pub returns : goal.returns
returns c = forms_chosen
