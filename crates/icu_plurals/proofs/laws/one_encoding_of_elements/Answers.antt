use Rattle.std.proofs.Common.{sym, ap, ◌∙◌}
use Rattle.icu_plurals.specs.PackedElements.{elements_bytes}
use Rattle.icu_plurals.specs.Inner.ElementsReading.{read_elements}
use Rattle.icu_plurals.proofs.ElementsAgain.{elements_in_one}
use Rattle.icu_plurals.proofs.laws.one_encoding_of_elements.Goals as goal

pub returns : goal.returns
returns c = λ elements others a b h g. (
  (λ e. sym (elements_in_one c.read_again.ensures elements a h) ∙ ap read_elements e ∙ elements_in_one c.read_again.ensures others b g),
  (λ e. h.spelled ∙ ap elements_bytes e ∙ sym g.spelled),
)
