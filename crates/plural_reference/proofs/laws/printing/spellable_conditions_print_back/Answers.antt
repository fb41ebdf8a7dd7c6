use Rattle.plural_reference.proofs.printing.PrintedBack.{spellable_conditions_print_back}
use Rattle.plural_reference.proofs.laws.printing.spellable_conditions_print_back.Goals as goal

pub returns : goal.returns
returns c = spellable_conditions_print_back
