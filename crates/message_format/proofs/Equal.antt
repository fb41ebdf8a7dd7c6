-- Whether a text writes a number of the same value, and what it means that it doesn't.
use Rattle.std.proofs.Common.{◌≡◌, ◌≤◌, ◌↔◌, ℕ, List, Bool, true, false, subst, ap, inl, inr, arith, Some, None, Result, Err}
use Rattle.std.specs.Bool.{IsTrue}
use Rattle.fixed_decimal.specs.Places.{IsWithinLimit}
use Rattle.fixed_decimal.specs.SameValue.{HaveSameValue, EqualsWritten}
use Rattle.fixed_decimal.specs.declared.error.DecimalError.{DecimalError}
use Rattle.fixed_decimal.specs.declared.error.DecimalError.TheVariants as number
use Rattle.fixed_decimal.specs.Written.{CompactNumber, WritesCompact, IsCompactOverLimit, OneCompact}
use Rattle.plural_base.specs.Categories.{name_of}
use Rattle.plural_base.specs.DecimalChoice.{IsTextChoice}
use Rattle.plural_base.specs.FiveRules.{FiveRules}
use Rattle.plural_base.specs.declared.category.PluralCategory.{PluralCategory}
use Rattle.message_pattern.specs.PatternParts.{Part, Branching}
use Rattle.message_format.specs.FormatBranches.{Equals, IsBranchOfNumber, IsCategory, branch_or_other}
use Rattle.message_format.specs.declared.error.ArgumentFault.TheVariants.{NotANumber, OverLimit}
use Rattle.message_format.specs.declared.error.FormatError.{FormatError}
use Rattle.message_format.specs.declared.error.FormatError.TheVariants as error
use Rattle.message_format.specs.FormatSteps.{Step, Chooses, Fails, StepsFromNumber, IsCounted}
use Rattle.message_format.specs.Inner.FormatViews.{GivesFault, fault_step, number_step}
use Rattle.message_format.specs.FormatParts.{IsFirstChosen}
use Rattle.message_format.proofs.Passes.{of_value}

-- where it doesn't, the answer is false
pub none_equal : (x : CompactNumber) (text : List ℕ) → (EqualsWritten x text → ⊥) → IsTrue false ↔ EqualsWritten x text
none_equal x text h = (λ t. let e : false ≡ true = t in cc, λ e. absurd (h e))

pub over_limit : OneCompact → (x : CompactNumber) (text : List ℕ) → (y : CompactNumber) × WritesCompact text y × IsCompactOverLimit y
    → EqualsWritten x text → ⊥
over_limit one x text w e = e.2 (subst (λ (y : CompactNumber). IsCompactOverLimit y) (one text w.0 e.0 w.1 e.1) w.2)

-- a number within the limits
pub within : (x : CompactNumber) → IsWithinLimit x.significand.absolute → x.exponent ≤ 255 → IsCompactOverLimit x → ⊥
within x w e (inl (inl h)) = omega (arith, w.whole)
within x w e (inl (inr h)) = omega (arith, w.fraction)
within x w e (inr h) = omega arith

-- the number that the text writes is compared
pub compared : OneCompact → (x y : CompactNumber) (text : List ℕ) (b : Bool) → WritesCompact text y → IsWithinLimit y.significand.absolute
    → y.exponent ≤ 255
    → IsTrue b ↔ HaveSameValue x y → IsTrue b ↔ EqualsWritten x text
compared one x y text b w l e h =
    (λ t. (y, w, within y l e, h.0 t), λ k. h.1 (subst (λ (z : CompactNumber). HaveSameValue x z) (one text k.0 y k.1 w) k.3))

-- a text that writes no number, or one over a limit, has this fault
pub refused : {A B : Type 0} (Writes IsOver : A → Type 0) (name : List ℕ) (Then : A → Step → Type 0) (r : Result B DecimalError)
    (e : DecimalError) (f : FormatError)
    → r ≡ Err e → fault_step f ≡ number_step name e → (r ≡ Err number.Syntax → (x : A) → Writes x → ⊥)
    → (r ≡ Err number.Limit → (x : A) × Writes x × IsOver x)
    → GivesFault (λ s. StepsFromNumber Writes IsOver name Then s) f
refused Writes IsOver name Then r number.Syntax (error.Argument fault n) is same none over =
    let step : Some (Fails fault n.now) ≡ Some (Fails NotANumber name) = same in
    inl (none is, cc)
refused Writes IsOver name Then r number.Limit (error.Argument fault n) is same none over =
    let step : Some (Fails fault n.now) ≡ Some (Fails OverLimit name) = same in
    inr (inl (over is, cc))
refused Writes IsOver name Then r number.Memory (error.Argument fault n) is same none over =
    let step : Some (Fails fault n.now) ≡ None = same in
    cc
refused Writes IsOver name Then r e error.Memory is same none over = tt

pub not_counted : {B : Type 0} (rules : FiveRules) (name : List ℕ) (bs : List Branching) (text : List ℕ) (r : Result B DecimalError)
    (e : DecimalError) (f : FormatError)
    → r ≡ Err e → fault_step f ≡ number_step name e
    → (r ≡ Err number.Syntax → (x : CompactNumber) → WritesCompact text x → ⊥)
    → (r ≡ Err number.Limit → (x : CompactNumber) × WritesCompact text x × IsCompactOverLimit x)
    → GivesFault (λ s. IsCounted rules name bs text s) f
not_counted rules name bs text r e f is same none over =
    refused (λ x. WritesCompact text x) (λ x. IsCompactOverLimit x) name
    (λ x s. (parts : List Part) × IsBranchOfNumber rules x x bs parts × (s ≡ Chooses text parts)) r e f is same none over

-- a number is counted
pub counted_by : (rules : FiveRules) (name : List ℕ) (bs : List Branching) (text shown : List ℕ) (x : CompactNumber) (parts : List Part)
    → WritesCompact text x → IsWithinLimit x.significand.absolute → x.exponent ≤ 255 → IsBranchOfNumber rules x x bs parts → shown ≡ text
    → IsCounted rules name bs text (Chooses shown parts)
counted_by rules name bs text shown x parts w l e h same =
    inr (inr (x, w, within x l e, (parts, h, ap (λ (t : List ℕ). Chooses t parts) same)))

-- a number that no branch has the value of is counted by a category
pub by_category : (rules : FiveRules) (x less : CompactNumber) (bs : List Branching) (word : List ℕ) (category : PluralCategory)
    (parts : List Part)
    → IsFirstChosen (λ s. Equals x s) bs None → IsCategory rules less category → word ≡ name_of category → parts ≡ branch_or_other word bs
    → IsBranchOfNumber rules x less bs parts
by_category rules x less bs word category parts none is named chosen =
    inr (of_value x bs None none, (category, is, subst (λ (t : List ℕ). parts ≡ branch_or_other t bs) named chosen))

-- by that of its text
pub counted_by_text : (rules : FiveRules) (name : List ℕ) (bs : List Branching) (text shown word : List ℕ) (category : PluralCategory)
    (parts : List Part)
    → IsTextChoice rules text category → word ≡ name_of category
    → ((x : CompactNumber) → WritesCompact text x → IsFirstChosen (λ s. Equals x s) bs None) → parts ≡ branch_or_other word bs → shown ≡ text
    → IsCounted rules name bs text (Chooses shown parts)
counted_by_text rules name bs text shown word category parts choice named none chosen same =
    let x = choice.0 in
    let is : IsCategory rules x category = record { kept = choice.4.0; exact = choice.4.1 } in
    counted_by rules name bs text shown x parts choice.1 choice.2 choice.3
    (by_category rules x x bs word category parts (none x choice.1) is named chosen) same
