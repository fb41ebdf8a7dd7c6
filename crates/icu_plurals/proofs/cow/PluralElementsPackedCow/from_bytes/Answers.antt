use Rattle.std.proofs.Common.{ap}
use Rattle.std.specs.Prelude.{Ok}
use Rattle.icu_plurals.proofs.CheckedElements.{are_elements, same_elements}
use Rattle.icu_plurals.proofs.cow.PluralElementsPackedCow.from_bytes.Goals as goal

pub lent-requires : goal.lent-requires
lent-requires c = are_elements c.read_again.ensures _ c.args.bytes.now c.in-Ok.ensures.ok

pub returns-in-Ok-clause-accepted : goal.returns-in-Ok-clause-accepted
returns-in-Ok-clause-accepted c =
    λ packed are. ap Ok (same_elements c.read_again.ensures c.lent.result packed c.args.bytes.now c.lent.ensures are)
