use Rattle.std.proofs.Common.{◌∙◌, ap, drop}
use Rattle.plural_base.specs.Categories.{name_of}
use Rattle.message_format.specs.FormatBranches.{branch_or_other}
use Rattle.packed_pattern.specs.Inner.PlacesAhead.{placed_view}
use Rattle.packed_format.proofs.BehindParts.{no_place}
use Rattle.packed_format.proofs.Begun.{ended_word, ended_shorter, branches_begun, shorter_begun}
use Rattle.packed_format.proofs.PlacesRead.{within}
use Rattle.packed_format.proofs.parts.BlockPartsMessageParts.branch_of_category.Goals as goal

pub returns-in_default-clause-branch : goal.returns-in_default-clause-branch
returns-in_default-clause-branch c =
    ended_word (drop c.args.self.next c.args.self.pattern.now)
    (no_place c.args.self.pattern.now c.args.self.next c.in_default.ensures) (name_of c.args.category)

pub returns-in_default-clause-shorter : goal.returns-in_default-clause-shorter
returns-in_default-clause-shorter c =
    ended_shorter (drop c.args.self.next c.args.self.pattern.now) (no_place c.args.self.pattern.now c.args.self.next c.in_default.ensures)

pub branch_of_category-found-requires-clause-within : goal.branch_of_category-found-requires-clause-within
branch_of_category-found-requires-clause-within c =
    within (placed_view c.in-Some.begin) c.args.self.pattern.now c.args.self.next c.in-Some.ensures

pub returns-clause-branch : goal.returns-clause-branch
returns-clause-branch c =
    rw (c.at.ensures.next, c.at.ensures.pattern) (c.branch_of_category-found.ensures.branch
    ∙ ap (branch_or_other (name_of c.args.category))
    (branches_begun (placed_view c.in-Some.begin) c.args.self.pattern.now c.args.self.next c.in-Some.ensures))

pub returns-clause-shorter : goal.returns-clause-shorter
returns-clause-shorter c =
    rw (c.at.ensures.next, c.at.ensures.pattern)
    (shorter_begun (placed_view c.in-Some.begin) c.args.self.pattern.now c.args.self.next c.in-Some.ensures
    c.branch_of_category-found.result c.branch_of_category-found.ensures.behind)
