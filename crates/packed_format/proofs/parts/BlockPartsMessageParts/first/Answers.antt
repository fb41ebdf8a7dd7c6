use Rattle.std.proofs.Common.{arith}
use Rattle.packed_pattern.specs.Inner.PlacesAhead.{placed_view}
use Rattle.packed_format.proofs.BehindParts.{from_place, no_place}
use Rattle.packed_format.proofs.PlacesRead.{within}
use Rattle.packed_format.proofs.parts.BlockPartsMessageParts.first.Goals as goal

pub returns-in-None : goal.returns-in-None
returns-in-None c = no_place c.args.self.pattern.now c.args.self.next c.in-None.ensures

pub overflow_add-self : goal.overflow_add-self
overflow_add-self c =
    let there = within (placed_view c.in-Some.placed) c.args.self.pattern.now c.args.self.next c.in-Some.ensures in
    omega (arith, there, c.args.self.few)

pub returns-in-Some : goal.returns-in-Some
returns-in-Some c =
    rw (c.part.ensures, c.at-rest.ensures.next, c.at-rest.ensures.pattern)
    (from_place c.args.self.pattern.now c.args.self.next (placed_view c.in-Some.placed).part c.in-Some.ensures.part)
