use Rattle.std.proofs.Common.{ap, ◌∙◌}
use Rattle.icu_plurals.specs.PackedElements.{packed_of}
use Rattle.icu_plurals.proofs.CheckedElements.{are_elements, same_elements}
use Rattle.icu_plurals.proofs.cow.PluralElementsPackedCow.from_elements.Goals as goal

pub owned-requires : goal.owned-requires
owned-requires c = are_elements c.read_again.ensures _ c.in-Ok.bytes.items c.in-Ok.ensures.ok

pub returns-in-Ok-clause-ok : goal.returns-in-Ok-clause-ok
returns-in-Ok-clause-ok c =
    same_elements c.read_again.ensures _ _ c.in-Ok.bytes.items c.owned.ensures c.in-Ok.ensures.ok ∙ ap packed_of c.plain.ensures
