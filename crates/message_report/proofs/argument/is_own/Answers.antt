use Rattle.std.proofs.Common.{sym, ◌∙◌}
use Rattle.message_pattern.specs.PatternParts.{branches_of, parts_view}
use Rattle.message_report.proofs.OwnBranches.{none_of_number, none_own, not_so, value_own}
use Rattle.message_report.proofs.argument.is_own.Goals as goal

pub returns-then-has_offset : goal.returns-then-has_offset
returns-then-has_offset c =
    none_own c.args.number.now c.args.has_offset (branches_of c.args.depth (parts_view c.args.parts.now)) c.if-has_offset.true

pub returns-then-not-kinds : goal.returns-then-not-kinds
returns-then-not-kinds c =
    none_of_number c.args.number.now c.args.has_offset (branches_of c.args.depth (parts_view c.args.parts.now)) c.requires.number.0
    c.requires.number.1 c.if-has_offset.false (sym c.requires.kinds ∙ not_so c.args.kinds.number c.if-not-kinds.true)

pub returns-in-Ok : goal.returns-in-Ok
returns-in-Ok c =
    value_own c.args.number.now c.args.has_offset (branches_of c.args.depth (parts_view c.args.parts.now)) c.in-Ok.number
    c.has_branch_of_value.result c.if-has_offset.false c.in-Ok.ensures.number.0 c.has_branch_of_value.ensures
