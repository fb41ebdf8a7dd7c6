-- Not a definition of the subject: which branches are of a number, and which categories have one.
use Rattle.std.specs.Prelude.{◌||◌, Bool, true, false, List, [], ◌∷◌}
use Rattle.icu_plurals.specs.declared.PluralCategory.{PluralCategory}
use Rattle.icu_plurals.specs.declared.PluralCategory.TheVariants.{Zero, One, Two, Few, Many, Other}
use Rattle.message_pattern.specs.PatternParts.{Branching, Selector, Exactly, Keyword}
use Rattle.message_report.specs.declared.branch_kinds.BranchKinds.{BranchKinds}

abbrev pub is_number_selector : Selector → Bool
is_number_selector (Exactly number) = true
is_number_selector (Keyword word) = false

abbrev pub has_number_branch : List Branching → Bool
has_number_branch [] = false
has_number_branch (b ∷ bs) = is_number_selector b.selector || has_number_branch bs

abbrev pub has_kind : PluralCategory → BranchKinds → Bool
has_kind Zero kinds = kinds.categories.zero
has_kind One kinds = kinds.categories.one
has_kind Two kinds = kinds.categories.two
has_kind Few kinds = kinds.categories.few
has_kind Many kinds = kinds.categories.many
has_kind Other kinds = kinds.other
