use Rattle.icu_plurals.proofs.ElementsAgain.{elements_in_one}
use Rattle.icu_plurals.proofs.laws.elements_read_again.Goals as goal

pub returns : goal.returns
returns c = elements_in_one c.read_again.ensures
