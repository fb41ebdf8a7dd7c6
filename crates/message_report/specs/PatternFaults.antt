-- What is wrong with the branches of a plural argument in a pattern, under the rules of its
-- language.
--     IsArgumentAt name has_offset depth parts argument      the argument at a depth, of which
--         these parts follow its beginning
--     missing_fault language argument category      that a category which numbers choose has no branch
--     branch_fault language argument before branch      the fault of a branch behind these
--         selectors, if it has one
use Rattle.std.specs.Prelude.{◌≡◌, ℕ, Bool, false, ◌||◌, bytes_eq, List, ◌++◌, codes, Option, Some, None, if◌then◌else◌}
use Rattle.icu_plurals.specs.declared.PluralCategory.{PluralCategory}
use Rattle.icu_plurals.specs.declared.PluralCategory.TheVariants.{Zero, One, Two, Few, Many, Other}
use Rattle.icu_plurals.specs.declared.PluralRuleType.{PluralRuleType}
use Rattle.icu_plurals.specs.declared.PluralRuleType.TheVariants.{Cardinal, Ordinal}
use Rattle.icu_plurals.specs.Categories.{name_of}
use Rattle.message_pattern.specs.PatternParts.{Branching, branches_of, Part, Selector, Exactly, Keyword}
use Rattle.message_pattern.specs.declared.part.ArgumentKind.{ArgumentKind}
use Rattle.message_pattern.specs.declared.part.ArgumentKind.TheVariants as kind
use Rattle.message_report.specs.FormFaults.{Language, are_text, missing_numbers_text, missing_samples_text}
use Rattle.message_report.specs.PatternBranches.{IsOwn, has_category_branch, has_number, inside_of, stands_in}
use Rattle.message_report.specs.declared.branch_fault.BranchFault.{BranchFault}
use Rattle.message_report.specs.declared.branch_fault.BranchFault.TheVariants.{NoCategory, Twice, Unused, NoHash, Missing, MissingRare}
use Rattle.number_categories.specs.declared.two_numbers.TwoNumbers.{TwoNumbers}
use Rattle.message_report.specs.declared.rare_samples.TwoSamples.{TwoSamples}

-- ---- An argument

-- a plural or an ordinal: its name, whether it has an offset, its depth, its branches, and whether
-- exactly 0 and exactly 1 have branches of their own
pub record PluralArgument : Type 0 where
  pub name : List ℕ
  pub has_offset : Bool
  pub depth : ℕ
  pub branches : List Branching
  pub own_zero : Bool
  pub own_one : Bool

-- the argument at a depth, of which these parts follow its beginning
abbrev pub plural_argument_at : List ℕ → Bool → ℕ → List Part → Bool → Bool → PluralArgument
plural_argument_at name has_offset depth ps own_zero own_one = record {
  name = name;
  has_offset = has_offset;
  depth = depth;
  branches = branches_of depth ps;
  own_zero = own_zero;
  own_one = own_one;
}

abbrev pub IsArgumentAt : List ℕ → Bool → ℕ → List Part → PluralArgument → Type 0
IsArgumentAt name has_offset depth ps a =
    (own_zero own_one : Bool) × IsOwn (codes "0") has_offset (branches_of depth ps) own_zero
    × IsOwn (codes "1") has_offset (branches_of depth ps) own_one × (a ≡ plural_argument_at name has_offset depth ps own_zero own_one)

-- the type of the rules that choose its branch; a select needs none
abbrev pub type_of_kind : ArgumentKind → Option PluralRuleType
type_of_kind kind.Plural = Some Cardinal
type_of_kind kind.Ordinal = Some Ordinal
type_of_kind kind.Select = None

-- the languages by both types of rules
pub record TwoLanguages : Type 0 where
  pub cardinal : Option Language
  pub ordinal : Option Language

abbrev pub language_of : TwoLanguages → PluralRuleType → Option Language
language_of two Cardinal = two.cardinal
language_of two Ordinal = two.ordinal

-- ---- The numbers that choose a branch

-- the two least that choose the branch of a category; with an offset those less the offset
abbrev pub numbers_of_branch : Language → PluralArgument → PluralCategory → TwoNumbers
numbers_of_branch language a category = language.numbers category a.own_zero a.own_one

-- ---- Faults

-- by samples, if there is no whole number of the category; else it has such numbers, and branches of
-- exactly 0 and 1 are for these
abbrev pub rare_by : PluralCategory → Option ℕ → TwoSamples → Option BranchFault
rare_by category None samples = Some (MissingRare category samples.first samples.second)
rare_by category (Some least) samples = None

-- by the numbers that would choose the branch; without these by the least whole number of the category
abbrev pub missing_by : PluralCategory → Option ℕ → Option ℕ → Option ℕ → TwoSamples → Option BranchFault
missing_by category None second least samples = rare_by category least samples
missing_by category (Some first) second least samples = Some (Missing category first second)

abbrev pub missing_fault : Language → PluralArgument → PluralCategory → Option BranchFault
missing_fault language a category =
    if has_category_branch category a.branches then None
    else if language.has category
    then missing_by category (numbers_of_branch language a category).first (numbers_of_branch language a category).second
    (language.numbers category false false).first (language.samples category)
    else None

-- a branch needs the number if two numbers choose it
abbrev pub no_hash : PluralCategory → Option ℕ → Option ℕ → Option BranchFault
no_hash category None second = None
no_hash category (Some first) None = None
no_hash category (Some first) (Some second) = Some (NoHash category first second)

-- it isn't told behind an offset, where the branch says another number than the one that has the
-- category
abbrev pub category_fault : Language → PluralArgument → List Part → PluralCategory → Option BranchFault
category_fault language a inside category =
    if language.has category
    then (
    if a.has_offset || has_number a.depth a.name inside then None
    else no_hash category (numbers_of_branch language a category).first (numbers_of_branch language a category).second
    )
    else Some (Unused category)

-- the category of a keyword
abbrev pub category_named : List ℕ → Option PluralCategory
category_named word =
    if bytes_eq word (name_of Zero) then Some Zero
    else if bytes_eq word (name_of One) then Some One
    else if bytes_eq word (name_of Two) then Some Two
    else if bytes_eq word (name_of Few) then Some Few
    else if bytes_eq word (name_of Many) then Some Many
    else if bytes_eq word (name_of Other) then Some Other
    else None

abbrev pub category_fault_if : Language → PluralArgument → List Part → Option PluralCategory → Option BranchFault
category_fault_if language a inside None = Some NoCategory
category_fault_if language a inside (Some category) = category_fault language a inside category

abbrev pub selector_fault : Language → PluralArgument → Selector → List Part → Option BranchFault
selector_fault language a (Exactly number) inside = None
selector_fault language a (Keyword word) inside = category_fault_if language a inside (category_named word)

-- first that the selector stands before
abbrev pub branch_fault : Language → PluralArgument → List Selector → Branching → Option BranchFault
branch_fault language a before b =
    if stands_in b.selector before then Some Twice else selector_fault language a b.selector (inside_of a.depth b.parts)

-- ---- The texts of faults

abbrev pub branch_fault_text : BranchFault → List ℕ
branch_fault_text NoCategory = codes "not a category"
branch_fault_text Twice = codes "stands twice"
branch_fault_text (Unused category) = codes "no number is " ++ name_of category
branch_fault_text (NoHash category first second) = codes "no #, but " ++ are_text first second category
branch_fault_text (Missing category first second) = missing_numbers_text category first second
branch_fault_text (MissingRare category first second) = missing_samples_text category first second
