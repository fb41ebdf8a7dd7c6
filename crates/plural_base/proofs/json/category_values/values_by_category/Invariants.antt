use Rattle.std.proofs.Common.{◌≡◌}
use Rattle.serde_json.specs.Find.{get_member}
use Rattle.serde_json.specs.View.{members_view}
use Rattle.plural_base.specs.declared.category.raw.RawPluralCategory.{RawPluralCategory}
use Rattle.plural_base.specs.Categories.{raw_name_of}
use Rattle.plural_base.specs.Inner.CategoryValues.{kept_or, lent_at}
use Rattle.plural_base.proofs.json.category_values.values_by_category.Given as goal

-- what is lent so far, or else stands among the remaining members, is what all members have
abbrev pub invariant-loop-name : goal.invariant-loop-name
invariant-loop-name l =
    (category : RawPluralCategory) → kept_or (lent_at l.values category) (get_member (raw_name_of category) (members_view l.name-iterator))
    ≡ get_member (raw_name_of category) (members_view l.members.entries)
