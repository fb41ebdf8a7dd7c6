use Rattle.std.proofs.Common.{arith, drop, subst, List, Some, None}
use Rattle.message_pattern.specs.PatternParts.{Branching}
use Rattle.message_format.specs.FormatParts.{IsFirstChosen}
use Rattle.packed_pattern.specs.Inner.PlacesAhead.{placed_view}
use Rattle.packed_format.proofs.BehindParts.{no_place}
use Rattle.packed_format.proofs.Begun.{ended_first, ended_left, branches_begun, shorter_begun, left_begun}
use Rattle.packed_format.proofs.PlacesRead.{within}
use Rattle.packed_format.proofs.parts.BlockPartsMessageParts.first_chosen.Goals as goal

pub returns-in_default-clause-first : goal.returns-in_default-clause-first
returns-in_default-clause-first g c =
    ended_first (drop c.args.self.next c.args.self.pattern.now) (no_place c.args.self.pattern.now c.args.self.next c.in_default.ensures)
    (g.C.Chooser.IsChosen c.args.chooser.now)

pub returns-in_default-clause-left : goal.returns-in_default-clause-left
returns-in_default-clause-left g c =
    ended_left (drop c.args.self.next c.args.self.pattern.now) (no_place c.args.self.pattern.now c.args.self.next c.in_default.ensures)

pub overflow_add-self : goal.overflow_add-self
overflow_add-self g c =
    let there = within (placed_view c.in-Some.begin) c.args.self.pattern.now c.args.self.next c.in-Some.ensures in
    omega (arith, there, c.args.self.few)

pub first_chosen-requires-clause-within : goal.first_chosen-requires-clause-within
first_chosen-requires-clause-within g c = within (placed_view c.in-Some.begin) c.args.self.pattern.now c.args.self.next c.in-Some.ensures

pub returns-in-Ok-Some-clause-first : goal.returns-in-Ok-Some-clause-first
returns-in-Ok-Some-clause-first g c =
    rw (c.at-branch.ensures.next, c.at-branch.ensures.pattern)
    (subst (λ (bs : List Branching). IsFirstChosen (g.C.Chooser.IsChosen c.args.chooser.now) bs
    (Some (drop c.in-Ok-Some.at c.args.self.pattern.now)))
    (branches_begun (placed_view c.in-Some.begin) c.args.self.pattern.now c.args.self.next c.in-Some.ensures)
    (rw c.in-Ok-Some.field-0-is at c.in-Ok-Some.ensures.first))

pub returns-in-Ok-Some-clause-shorter : goal.returns-in-Ok-Some-clause-shorter
returns-in-Ok-Some-clause-shorter g c =
    rw (c.at-branch.ensures.next, c.at-branch.ensures.pattern)
    (shorter_begun (placed_view c.in-Some.begin) c.args.self.pattern.now c.args.self.next c.in-Some.ensures c.in-Ok-Some.at
    (rw c.in-Ok-Some.field-0-is at c.in-Ok-Some.ensures.behind))

pub returns-in-Ok-Some-clause-left : goal.returns-in-Ok-Some-clause-left
returns-in-Ok-Some-clause-left g c =
    rw (c.at-left.ensures.next, c.at-left.ensures.pattern)
    (left_begun (placed_view c.in-Some.begin) c.args.self.pattern.now c.args.self.next c.in-Some.ensures)

pub returns-in-Ok-None-clause-first : goal.returns-in-Ok-None-clause-first
returns-in-Ok-None-clause-first g c =
    subst (λ (bs : List Branching). IsFirstChosen (g.C.Chooser.IsChosen c.args.chooser.now) bs None)
    (branches_begun (placed_view c.in-Some.begin) c.args.self.pattern.now c.args.self.next c.in-Some.ensures)
    (rw c.in-Ok-None.field-0-is at c.in-Ok-None.ensures.first)

pub returns-in-Ok-None-clause-left : goal.returns-in-Ok-None-clause-left
returns-in-Ok-None-clause-left g c =
    rw (c.at-left.ensures.next, c.at-left.ensures.pattern)
    (left_begun (placed_view c.in-Some.begin) c.args.self.pattern.now c.args.self.next c.in-Some.ensures)
