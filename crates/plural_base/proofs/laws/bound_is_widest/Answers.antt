use Rattle.plural_base.proofs.choice.WidestChoice.{widest_choice}
use Rattle.plural_base.proofs.laws.bound_is_widest.Goals as goal

pub returns : goal.returns
returns c = widest_choice c.bound_is_widest.ensures
