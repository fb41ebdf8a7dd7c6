use Rattle.std.proofs.Common.{sym, subst}
use Rattle.std.specs.Prelude.{Contains}
use Rattle.plural_operands.specs.Operands.{of_whole}
use Rattle.plural_runtime.specs.PackedTruth.{packed_truth}
use Rattle.plural_base.specs.declared.category.PluralCategory.{PluralCategory}
use Rattle.plural_base.specs.FiveRules.{categories_of}
use Rattle.plural_base.proofs.choice.Members.{first_category-member}
use Rattle.plural_base.proofs.rules.prepared.PreparedRules.category_for_integer.Goals as goal

pub returns-clause-member : goal.returns-clause-member
returns-clause-member c =
    let rules = c.args.self.now in
    let P : PluralCategory → Type 0 = λ category. Contains (categories_of rules) category in
    subst P (sym c.by_tables.ensures) (first_category-member (packed_truth (of_whole c.args.number)) rules)
