use Rattle.std.proofs.Common.{◌≡◌, ◌∙◌, ap, subst, sym}
use Rattle.std.specs.Prelude.{Contains}
use Rattle.plural_runtime.specs.PackedTruth.{packed_truth}
use Rattle.plural_base.specs.declared.category.PluralCategory.{PluralCategory}
use Rattle.plural_base.specs.FiveRules.{categories_of, first_category}
use Rattle.plural_base.proofs.choice.Members.{first_category-member}
use Rattle.plural_base.proofs.rules.ordered.OrderedRules.category_for.Goals as goal

pub returns : goal.returns
returns c =
    let rules = c.args.self.now in
    let test = packed_truth c.args.operands.now in
    let first : c.first_true.result ≡ first_category test rules =
    c.first_true.ensures ∙ c.self.invariant c.args.operands.now ∙ ap (first_category test) c.self.view_is in
    let P : PluralCategory → Type 0 = λ category. Contains (categories_of rules) category in
    record { first = first; member = subst P (sym first) (first_category-member test rules) }
