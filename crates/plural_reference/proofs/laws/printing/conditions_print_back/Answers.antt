use Rattle.plural_reference.proofs.printing.PrintedBack.{conditions_print_back}
use Rattle.plural_reference.proofs.laws.printing.conditions_print_back.Goals as goal

pub returns : goal.returns
returns c = conditions_print_back
