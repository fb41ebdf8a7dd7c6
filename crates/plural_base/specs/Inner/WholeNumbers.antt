-- Not a definition of the subject: what is told of all whole numbers from a bound on that leave one
-- remainder by 100, and the tables that prepared rules keep.
use Rattle.std.specs.Prelude.{◌≡◌, ℕ, ◌+◌, ◌%◌, ◌==◌, ◌<◌, ◌≤◌, List, Option, Some, None, slice_index_or, Bool, true, false, not, nat_lt, ◌&&◌, ◌||◌}
use Rattle.std.specs.Prelude.{if◌then◌else◌}
use Rattle.std.specs.List.{list_all}
use Rattle.plural_operands.specs.declared.operand.Operand.{Operand}
use Rattle.plural_operands.specs.declared.operand.Operand.TheVariants.{N, I, V, W, F, T, C, E}
use Rattle.plural_operands.specs.Operands.{Operands, of_whole}
use Rattle.plural_runtime.specs.declared.kinds.AndOr.{AndOr}
use Rattle.plural_runtime.specs.declared.kinds.AndOr.TheVariants.{And, Or}
use Rattle.plural_runtime.specs.PackedRelations.{PackedRelation}
use Rattle.plural_runtime.specs.PackedTruth.{packed_truth}
use Rattle.plural_base.specs.declared.category.PluralCategory.{PluralCategory}
use Rattle.plural_base.specs.declared.category.PluralCategory.TheVariants.{Zero, One, Two, Few, Many, Other}
use Rattle.plural_base.specs.declared.rules.known.Known.{Known}
use Rattle.plural_base.specs.declared.rules.known.Known.TheVariants.{IsZero, RemainderBy, From, Leaves, Nothing}
use Rattle.plural_reference.specs.Truth.{range_holds, remainder}
use Rattle.plural_base.specs.FiveRules.{FiveRules, first_category, passes}
use Rattle.plural_base.specs.Inner.Masks.{IsToldAt}
use Rattle.plural_base.specs.ToldCategories.{is_told, rule_or}
use Rattle.plural_base.specs.declared.rules.told_masks.Told.{Told}

-- the category of a whole number
abbrev pub category_of_whole : FiveRules → ℕ → PluralCategory
category_of_whole rules n = first_category (packed_truth (of_whole n)) rules

-- an operand's value at a whole number
abbrev pub whole_value : Operand → ℕ → ℕ
whole_value N n = n
whole_value I n = n
whole_value V n = 0
whole_value W n = 0
whole_value F n = 0
whole_value T n = 0
whole_value C n = 0
whole_value E n = 0

-- what is told of a value, if anything is, is the value
abbrev pub IsTold : {A : Type 0} → A → Option A → Type 0
IsTold value None = Unit {0}
IsTold value (Some told) = value ≡ told

-- a number is at least the bound, and leaves the residue
pub record IsInClass (bound residue n : ℕ) : Type 0 where
  pub above : bound ≤ n
  pub residue_is : n % 100 ≡ residue

-- the operands are those of such a number
abbrev pub HasResidue : ℕ → ℕ → Operands → Type 0
HasResidue bound residue o = (n : ℕ) × (o ≡ of_whole n) × IsInClass bound residue n

-- a value at a number of a class, by the place of the class, is as is known of it
abbrev pub Fits : Known → ℕ → ℕ → Type 0
Fits IsZero class value = value ≡ 0
Fits (RemainderBy modulus) class value = value ≡ remainder modulus class
Fits (From least) class value = least ≤ value
Fits Leaves class value = value % 100 ≡ class
Fits Nothing class value = Unit {0}

-- it is told of a range whether it holds such a value
abbrev pub is_range_told : Known → ℕ → ℕ × ℕ → Bool
is_range_told IsZero class range = true
is_range_told (RemainderBy modulus) class range = true
is_range_told (From least) class range = nat_lt range.1 least
is_range_told Leaves class range = (range.0 == range.1) && not (range.0 % 100 == class)
is_range_told Nothing class range = false

-- it is told of a list of ranges
abbrev pub is_list_told : Known → ℕ → List (ℕ × ℕ) → Bool
is_list_told IsZero class ranges = true
is_list_told (RemainderBy modulus) class ranges = true
is_list_told (From least) class ranges = list_all (is_range_told (From least) class) ranges
is_list_told Leaves class ranges = list_all (is_range_told Leaves class) ranges
is_list_told Nothing class ranges = list_all (is_range_told Nothing class) ranges

-- whether a range holds a value, if it is told, else a guess
abbrev pub range_or : Bool → Known → ℕ → ℕ → ℕ × ℕ → Bool
range_or guess known class value range = if is_range_told known class range then range_holds value range else guess

-- it is told of a class, if at all, that this truth holds
abbrev pub IsToldIf : ℕ → Bool → Bool → Told → Type 0
IsToldIf class is_told truth told = IsToldAt class (if is_told then truth else false) (if is_told then truth else true) told

-- ---- The walk over the relations of a rule

-- whether a group before the open one is true, once a relation with a mark is read
abbrev pub earlier_after : AndOr → Bool → Bool → Bool
earlier_after And earlier group = earlier
earlier_after Or earlier group = earlier || group

-- whether the open group is true so far, once such a relation is read
abbrev pub group_after : AndOr → Bool → Bool → Bool
group_after And group truth = group && truth
group_after Or group truth = truth

-- ---- The category of a class

-- a rule's category if the rule is surely true, nothing if it may be, else what the others tell
abbrev pub told_step : Bool → Bool → PluralCategory → Option PluralCategory → Option PluralCategory
told_step sure maybe category others = if sure then Some category else (if maybe then None else others)

-- the category that five rules tell
unfoldable pub told_category : (PackedRelation → Bool) → Operands → FiveRules → Option PluralCategory
told_category told number rules =
    let sure = passes (rule_or false told number) in
    let maybe = passes (rule_or true told number) in
    told_step (sure rules.zero) (maybe rules.zero) Zero
    (told_step (sure rules.one) (maybe rules.one) One
    (told_step (sure rules.two) (maybe rules.two) Two
    (told_step (sure rules.few) (maybe rules.few) Few
    (told_step (sure rules.many) (maybe rules.many) Many (Some Other)))))

-- ---- The size of rules

-- what is left of a number once the size of a rule is taken from it, if it isn't less
abbrev pub IsLeft : ℕ → ℕ → Option ℕ → Type 0
IsLeft size number (Some left) = left + size ≡ number
IsLeft size number None = number < size

-- ---- The tables

-- each entry is the category of the number of its place
abbrev pub AreLowEntries : FiveRules → List PluralCategory → Type 0
AreLowEntries rules low = (n : ℕ) → n < 128 → slice_index_or low n Zero ≡ category_of_whole rules n

-- each entry, if it is a category, is that of all numbers from the bound on that leave the number
-- of its place by 100
abbrev pub AreTold : FiveRules → ℕ → List (Option PluralCategory) → Type 0
AreTold rules bound cycle = (n : ℕ) → bound ≤ n → IsTold (category_of_whole rules n) (slice_index_or cycle (n % 100) None)

-- each entry is the category that is told of these numbers
abbrev pub AreAllTold : FiveRules → ℕ → List (Option PluralCategory) → Type 0
AreAllTold rules bound cycle = (n : ℕ) → bound ≤ n
    → slice_index_or cycle (n % 100) None ≡ told_category (is_told bound (n % 100)) (of_whole n) rules
