use Rattle.std.proofs.Common.{◌∙◌, ap, arith, drop}
use Rattle.message_format.specs.FormatBranches.{branch_or_other}
use Rattle.packed_pattern.specs.Inner.PlacesAhead.{placed_view}
use Rattle.packed_format.proofs.BehindParts.{no_place}
use Rattle.packed_format.proofs.Begun.{ended_word, ended_shorter, ended_left, branches_begun, shorter_begun, left_begun}
use Rattle.packed_format.proofs.PlacesRead.{within}
use Rattle.packed_format.proofs.parts.BlockPartsMessageParts.branch_of_word.Goals as goal

pub returns-in_default-clause-branch : goal.returns-in_default-clause-branch
returns-in_default-clause-branch c =
    ended_word (drop c.args.self.next c.args.self.pattern.now)
    (no_place c.args.self.pattern.now c.args.self.next c.in_default.ensures) c.args.word.now

pub returns-in_default-clause-shorter : goal.returns-in_default-clause-shorter
returns-in_default-clause-shorter c =
    ended_shorter (drop c.args.self.next c.args.self.pattern.now) (no_place c.args.self.pattern.now c.args.self.next c.in_default.ensures)

pub returns-in_default-clause-left : goal.returns-in_default-clause-left
returns-in_default-clause-left c =
    ended_left (drop c.args.self.next c.args.self.pattern.now) (no_place c.args.self.pattern.now c.args.self.next c.in_default.ensures)

pub branch_of_word-found-requires-clause-within : goal.branch_of_word-found-requires-clause-within
branch_of_word-found-requires-clause-within c =
    within (placed_view c.in-Some.begin) c.args.self.pattern.now c.args.self.next c.in-Some.ensures

pub overflow_add-self : goal.overflow_add-self
overflow_add-self c =
    let there = within (placed_view c.in-Some.begin) c.args.self.pattern.now c.args.self.next c.in-Some.ensures in
    omega (arith, there, c.args.self.few)

pub returns-clause-branch : goal.returns-clause-branch
returns-clause-branch c =
    rw (c.at-branch.ensures.next, c.at-branch.ensures.pattern)
    (c.branch_of_word-found.ensures.branch
    ∙ ap (branch_or_other c.args.word.now)
    (branches_begun (placed_view c.in-Some.begin) c.args.self.pattern.now c.args.self.next c.in-Some.ensures))

pub returns-clause-shorter : goal.returns-clause-shorter
returns-clause-shorter c =
    rw (c.at-branch.ensures.next, c.at-branch.ensures.pattern)
    (shorter_begun (placed_view c.in-Some.begin) c.args.self.pattern.now c.args.self.next c.in-Some.ensures c.branch_of_word-found.result
    c.branch_of_word-found.ensures.behind)

pub returns-clause-left : goal.returns-clause-left
returns-clause-left c =
    rw (c.at-left.ensures.next, c.at-left.ensures.pattern)
    (left_begun (placed_view c.in-Some.begin) c.args.self.pattern.now c.args.self.next c.in-Some.ensures)
