use Rattle.std.proofs.Common.{Some, inl, refl, rules}
use Rattle.plural_base.specs.Categories.{name_of}
use Rattle.message_format.specs.FormatBranches.{IsCategory}
use Rattle.message_format.specs.FormatParts.{branches_at}
use Rattle.message_format.proofs.Equal.{by_category}
use Rattle.message_format.proofs.Passes.{of_value}
use Rattle.message_format.proofs.branches.branch_of_number.Goals as goal

pub returns-in-Some-clause-branch : goal.returns-in-Some-clause-branch
returns-in-Some-clause-branch g c =
    let some = rw c.in-Some.is at c.in_ok-branch.ensures.branch in
    inl (of_value c.args.number.now (branches_at (g.P.MessageParts.parts c.args.argument)) (Some (g.P.MessageParts.parts c.in-Some.branch))
    some)

pub returns-in-None-clause-branch : goal.returns-in-None-clause-branch
returns-in-None-clause-branch g c =
    let none = rw c.in-None.is at c.in_ok-branch.ensures.branch in
    let category = c.category_for_compact-category.result in
    let is : IsCategory (g.R.TextRules.rules c.args.rules.now) c.args.less.now category = search rules in
    by_category (g.R.TextRules.rules c.args.rules.now) c.args.number.now c.args.less.now
    (branches_at (g.P.MessageParts.parts c.args.argument)) (name_of category) category
    (g.P.MessageParts.parts c.branch_of_category-branch.result) none is refl c.branch_of_category-branch.ensures.branch
