-- Which of the branches of an argument is chosen.
use Rattle.std.specs.Prelude.{◌≡◌, ◌⊎◌, ℕ, List, [], ◌∷◌, Bool, false, nat_lt, bytes_eq, Option, Some, None, if◌then◌else◌, codes}
use Rattle.fixed_decimal.specs.SameValue.{EqualsWritten}
use Rattle.fixed_decimal.specs.Written.{CompactNumber}
use Rattle.plural_base.specs.Categories.{name_of}
use Rattle.plural_base.specs.DecimalChoice.{IsExactChoice, IsKeptChoice}
use Rattle.plural_base.specs.FiveRules.{FiveRules}
use Rattle.plural_base.specs.declared.category.PluralCategory.{PluralCategory}
use Rattle.message_pattern.specs.PatternParts.{Part, Selector, Exactly, Keyword, End, Branching}

-- the parts that follow the end of an argument at a depth
abbrev pub behind_end : ℕ → List Part → List Part
behind_end depth [] = []
behind_end depth (p ∷ ps) =
    if nat_lt depth p.depth then behind_end depth ps
    else elim p.piece as (λ _. List Part) [
      | End ↦ ps
      | _ ↦ behind_end depth ps
    ]

-- ---- by a keyword

-- the selector is this keyword
abbrev pub is_keyword : List ℕ → Selector → Bool
is_keyword word (Exactly number) = false
is_keyword word (Keyword other) = bytes_eq other word

-- the first branch of a keyword
abbrev pub branch_of_keyword : List ℕ → List Branching → Option (List Part)
branch_of_keyword word [] = None
branch_of_keyword word (b ∷ bs) = if is_keyword word b.selector then Some b.parts else branch_of_keyword word bs

-- no parts, if there is no branch: the reader of patterns requires a branch `other`
abbrev pub parts_or_none : Option (List Part) → List Part
parts_or_none None = []
parts_or_none (Some parts) = parts

-- a branch, or else another one
abbrev pub or_branch : Option (List Part) → Option (List Part) → Option (List Part)
or_branch None other = other
or_branch (Some parts) other = Some parts

-- the branch of a keyword, or of `other` if there is none
abbrev pub branch_or_other : List ℕ → List Branching → List Part
branch_or_other word bs = parts_or_none (or_branch (branch_of_keyword word bs) (branch_of_keyword (codes "other") bs))

-- ---- by a number

-- the selector is `=` and a number of the same value
abbrev pub Equals : CompactNumber → Selector → Type 0
Equals x (Exactly number) = EqualsWritten x number
Equals x (Keyword word) = ⊥

-- the first branch whose selector is `=` and a number of the same value, or none
abbrev pub IsBranchOfValue : CompactNumber → List Branching → Option (List Part) → Type 0
IsBranchOfValue x [] parts = parts ≡ None
IsBranchOfValue x (b ∷ bs) parts =
    (Equals x b.selector × (parts ≡ Some b.parts)) ⊎ ((Equals x b.selector → ⊥) × IsBranchOfValue x bs parts)

-- one of the branches is that of the number's value
abbrev pub HasBranchOfValue : CompactNumber → List Branching → Type 0
HasBranchOfValue x bs = (parts : List Part) × IsBranchOfValue x bs (Some parts)

-- The category that the rules choose for a number: by what is kept of its digits, and within the
-- exactness bound that of the number itself.
pub record IsCategory (rules : FiveRules) (x : CompactNumber) (category : PluralCategory) : Type 0 where
  pub kept : IsKeptChoice rules x.significand.absolute x.exponent category
  pub exact : IsExactChoice rules x.significand.absolute x.exponent category

-- The branch for a number and the number less the offset: the first of the number's value, else
-- that of the category of the other, else `other`.
abbrev pub IsBranchOfNumber : FiveRules → CompactNumber → CompactNumber → List Branching → List Part → Type 0
IsBranchOfNumber rules x less bs parts =
    IsBranchOfValue x bs (Some parts)
    ⊎ (IsBranchOfValue x bs None × ((category : PluralCategory) × IsCategory rules less category × (parts ≡ branch_or_other (name_of category) bs)))
