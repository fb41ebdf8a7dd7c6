-- The branches of an argument, seen one after the other.
use Rattle.std.proofs.Common.{◌≡◌, List}
use Rattle.std.specs.Prelude.{◌||◌}
use Rattle.icu_plurals.specs.declared.PluralCategory.{PluralCategory}
use Rattle.message_pattern.specs.PatternParts.{Branching}
use Rattle.message_report.specs.Inner.BranchKinds.{has_kind, has_number_branch}
use Rattle.message_report.specs.PatternBranches.{has_category_branch}
use Rattle.message_report.specs.declared.branch_kinds.BranchKinds.{BranchKinds}

-- what was seen and what is left are all
pub record Seen (kinds : BranchKinds) (left all : List Branching) : Type 0 where
  pub number : has_number_branch all ≡ (kinds.number || has_number_branch left)
  pub category : (category : PluralCategory) → has_category_branch category all ≡ (has_kind category kinds || has_category_branch category left)
