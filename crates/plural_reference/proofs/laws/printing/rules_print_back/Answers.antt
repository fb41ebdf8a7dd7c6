use Rattle.plural_reference.proofs.printing.PrintedBack.{rules_print_back}
use Rattle.plural_reference.proofs.laws.printing.rules_print_back.Goals as goal

pub returns : goal.returns
returns c = rules_print_back
