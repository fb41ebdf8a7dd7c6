use Rattle.icu_plurals.proofs.PackedAgain.{answers_again}
use Rattle.icu_plurals.proofs.laws.packed_elements_answer.Goals as goal

pub returns : goal.returns
returns c = answers_again
