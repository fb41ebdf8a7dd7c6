use Rattle.std.proofs.Common.{◌≡◌, ◌∙◌, sym, Some}
use Rattle.icu_plurals.specs.ElementsFaults.{first_element_fault}
use Rattle.icu_plurals.proofs.ElementsOneFault.{first_fault_is}
use Rattle.icu_plurals.proofs.packed.items.check_items.Goals as goal

pub returns-in-Some-clause-sound : goal.returns-in-Some-clause-sound
returns-in-Some-clause-sound c =
    let found : first_element_fault 0 c.in-Ok.list ≡ Some c.in-Some.fault = sym c.first_fault_of.ensures ∙ c.in-Some.is in
    first_fault_is c.args.rest.now c.in-Ok.list c.in-Some.fault c.in-Ok.ensures.ok found
