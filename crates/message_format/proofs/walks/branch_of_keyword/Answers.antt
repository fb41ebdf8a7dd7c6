use Rattle.message_pattern.specs.PatternParts.{parts_view, branches_of}
use Rattle.message_format.specs.Inner.FormatViews.{any_parts}
use Rattle.message_format.proofs.Passes.{of_keyword}
use Rattle.message_format.proofs.walks.branch_of_keyword.Goals as goal

pub returns-clause-branch : goal.returns-clause-branch
returns-clause-branch c =
    of_keyword c.args.word.now (branches_of c.args.depth (parts_view c.args.parts.now)) (any_parts c.in-Ok.seen.branch)
    c.in-Ok.ensures.first
