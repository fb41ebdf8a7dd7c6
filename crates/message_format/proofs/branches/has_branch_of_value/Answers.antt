use Rattle.std.proofs.Common.{◌≡◌, true, false, refl, subst, Some, None}
use Rattle.fixed_decimal.specs.Written.{CompactNumber}
use Rattle.message_pattern.specs.PatternParts.{branches_of, parts_view}
use Rattle.message_format.specs.FormatBranches.{Equals, IsBranchOfValue}
use Rattle.message_format.specs.FormatParts.{IsFirstChosen}
use Rattle.message_format.proofs.OneSaying.{none_of_value}
use Rattle.message_format.proofs.Passes.{of_value}
use Rattle.message_format.proofs.branches.has_branch_of_value.Goals as goal

pub returns-in-Some : goal.returns-in-Some
returns-in-Some c =
    let x = c.args.number.now in
    let bs = branches_of c.args.depth (parts_view c.args.parts.now) in
    let found = c.in-Some.field-0.now in
    let some = rw c.in-Some.is at c.in_ok-first_chosen.ensures.first in
    let first = subst (λ (y : CompactNumber). IsFirstChosen (λ s. Equals y s) bs (Some (parts_view found))) c.of.ensures.number some in
    (λ t. (_, of_value x bs (Some (parts_view found)) first), λ k. refl)

pub returns-in-None : goal.returns-in-None
returns-in-None c =
    let x = c.args.number.now in
    let bs = branches_of c.args.depth (parts_view c.args.parts.now) in
    let first =
    subst (λ (y : CompactNumber). IsFirstChosen (λ s. Equals y s) bs None) c.of.ensures.number
    (rw c.in-None.is at c.in_ok-first_chosen.ensures.first) in
    let none : IsBranchOfValue x bs None = of_value x bs None first in
    (λ t. let e : false ≡ true = t in cc, λ k. absurd (none_of_value x bs none k))
