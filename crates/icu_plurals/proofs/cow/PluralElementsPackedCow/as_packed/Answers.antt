use Rattle.std.proofs.Common.{sym, ◌∙◌, subst}
use Rattle.std.specs.Cow.{cow_slice_items}
use Rattle.icu_plurals.specs.Inner.ElementsReading.{AreElements}
use Rattle.icu_plurals.specs.PackedElements.{ElementsBytes}
use Rattle.icu_plurals.proofs.CheckedElements.{same_elements}
use Rattle.icu_plurals.proofs.cow.PluralElementsPackedCow.as_packed.Goals as goal

pub from_checked-requires : goal.from_checked-requires
from_checked-requires c = subst AreElements (sym c.as_slice.ensures.value) c.self.invariant

pub returns : goal.returns
returns c =
    let bytes = cow_slice_items c.self.inside.bytes in
    let lent = subst (ElementsBytes _) c.as_slice.ensures.value c.from_checked.ensures in
    same_elements c.read_again.ensures _ _ bytes lent c.self.invariant ∙ c.self.view_is
