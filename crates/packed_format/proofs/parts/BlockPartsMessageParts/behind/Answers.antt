use Rattle.std.proofs.Common.{◌≤◌, ◌+◌, List, drop, length, subst, arith, length-drop}
use Rattle.message_pattern.specs.PatternParts.{Part}
use Rattle.message_format.specs.FormatParts.{BeginWithChoice}
use Rattle.packed_pattern.specs.Inner.PlacesAhead.{placed_view}
use Rattle.packed_format.proofs.ArgumentEnds.{behind_argument}
use Rattle.packed_format.proofs.BehindParts.{no_place}
use Rattle.packed_format.proofs.PlacesRead.{within}
use Rattle.packed_format.proofs.parts.BlockPartsMessageParts.behind.Goals as goal

pub returns-in_default : goal.returns-in_default
returns-in_default c =
    absurd (subst (λ (l : List Part). BeginWithChoice l) (no_place c.args.self.pattern.now c.args.self.next c.in_default.ensures) c.requires.begun)

pub returns-clause-end : goal.returns-clause-end
returns-clause-end c =
    rw (c.at.ensures.next, c.at.ensures.pattern)
    (behind_argument (placed_view c.in-Some.begin) c.args.self.pattern.now c.args.self.next c.place-length.result c.args.self.ordered
    c.in-Some.ensures c.requires.begun c.place-length.ensures.place)

pub returns-clause-fewer : goal.returns-clause-fewer
returns-clause-fewer c =
    let ps = c.args.self.pattern.now in
    let at = c.args.self.next in
    let fewer : length (drop (at + 2 + c.place-length.result) ps) ≤ length (drop 1 (drop at ps)) =
    omega (arith, length-drop (at + 2 + c.place-length.result) ps, length-drop at ps, length-drop 1 (drop at ps)) in
    rw (c.at.ensures.next, c.at.ensures.pattern) fewer

pub overflow_add-self : goal.overflow_add-self
overflow_add-self c =
    let there = within (placed_view c.in-Some.begin) c.args.self.pattern.now c.args.self.next c.in-Some.ensures in
    omega (arith, there, c.args.self.few)

pub overflow_add-self-2 : goal.overflow_add-self-2
overflow_add-self-2 c =
    let there = within (placed_view c.in-Some.begin) c.args.self.pattern.now c.args.self.next c.in-Some.ensures in
    omega (arith, there, c.args.self.few, c.place-length.ensures.few)
