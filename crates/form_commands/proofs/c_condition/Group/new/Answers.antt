use Rattle.std.proofs.Common.{codes, refl}
use Rattle.form_commands.proofs.c_condition.Group.new.Goals as goal

pub returns : goal.returns
returns c = record { atoms = c.new.ensures (codes " && "); is_possible = refl }
