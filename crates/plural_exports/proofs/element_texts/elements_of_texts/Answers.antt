use Rattle.std.proofs.Common.{Ok}
use Rattle.icu_plurals.specs.Elements.{each_by}
use Rattle.icu_plurals.specs.PackedElements.{packed_of, plain_value}
use Rattle.plural_exports.proofs.element_texts.elements_of_texts.Goals as goal

pub returns : goal.returns
returns c = (Ok (packed_of (each_by plain_value c.in_ok-texts.texts)), c.in_ok-texts.ensures, c.packed.ensures)
