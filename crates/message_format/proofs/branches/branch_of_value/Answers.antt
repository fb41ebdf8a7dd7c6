use Rattle.std.proofs.Common.{subst}
use Rattle.std.specs.Prelude.{option_map, IfOk}
use Rattle.fixed_decimal.specs.Written.{CompactNumber}
use Rattle.message_format.specs.FormatBranches.{Equals}
use Rattle.message_format.specs.FormatParts.{branches_at, IsFirstChosen}
use Rattle.message_format.proofs.branches.branch_of_value.Goals as goal

pub returns-clause-branch : goal.returns-clause-branch
returns-clause-branch g c =
    subst
    (λ (x : CompactNumber). IfOk c.first_chosen.result
    (λ seen. IsFirstChosen (λ s. Equals x s) (branches_at (g.P.MessageParts.parts c.args.argument))
    (option_map g.P.MessageParts.parts seen.branch)))
    c.of.ensures.number c.first_chosen.ensures.first
