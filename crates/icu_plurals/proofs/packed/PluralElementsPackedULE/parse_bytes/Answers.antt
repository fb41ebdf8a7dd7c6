use Rattle.std.proofs.Common.{◌≡◌, ◌∙◌, arith, ap, sym, subst}
use Rattle.std.specs.Prelude.{Err}
use Rattle.icu_plurals.specs.Inner.ElementsViews.{lent_parts, lent_elements}
use Rattle.icu_plurals.specs.ElementsFaults.{HasElementsFault}
use Rattle.icu_plurals.proofs.ElementsAgain.{elements_are_good, elements_in_one, good_are_elements}
use Rattle.icu_plurals.proofs.ElementsOneFault.{fault_of_parts, parts_fault_is}
use Rattle.icu_plurals.proofs.packed.PluralElementsPackedULE.parse_bytes.Goals as goal

pub returns-in-Err-clause-accepted : goal.returns-in-Err-clause-accepted
returns-in-Err-clause-accepted c = λ elements h.
    let good = c.in-Err.ensures.good
    (elements_are_good elements (lent_parts c.in_ok-parts.parts) c.args.bytes.now h c.in_ok-parts.ensures) in
    cc

pub returns-in-Err-clause-refused : goal.returns-in-Err-clause-refused
returns-in-Err-clause-refused c = λ fault.
    let bytes = c.args.bytes.now in
    let parts = lent_parts c.in_ok-parts.parts in
    let here = parts_fault_is bytes parts c.in-Err.fault c.in_ok-parts.ensures c.in-Err.ensures.sound in (
      (λ same. let e : c.in-Err.fault ≡ fault = cc in subst (HasElementsFault bytes) e here),
      (λ other.
          let only = c.in-Err.ensures.only fault (fault_of_parts bytes parts fault c.in_ok-parts.ensures other) in
          let same : c.in-Err.fault ≡ fault = cc in
          ap Err same),
    )

pub from_checked-requires : goal.from_checked-requires
from_checked-requires c =
    good_are_elements c.read_again.ensures (lent_parts c.in_ok-parts.parts) c.args.bytes.now
    (λ i. omega (arith, c.type_inv.bytes i)) c.in_ok-parts.ensures c.in-Ok.ensures.sound

pub returns-in-Ok-clause-accepted : goal.returns-in-Ok-clause-accepted
returns-in-Ok-clause-accepted c = λ elements h.
    sym (elements_in_one c.read_again.ensures (lent_elements c.from_checked.result) c.args.bytes.now c.from_checked.ensures)
    ∙ elements_in_one c.read_again.ensures elements c.args.bytes.now h

pub returns-in-Ok-clause-refused : goal.returns-in-Ok-clause-refused
returns-in-Ok-clause-refused c = λ fault. (
  (λ same. cc),
  (λ other. let e = c.in-Ok.ensures.only fault
      (fault_of_parts c.args.bytes.now (lent_parts c.in_ok-parts.parts) fault c.in_ok-parts.ensures other) in cc),
)
