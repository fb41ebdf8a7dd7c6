-- A plural with an offset.
use Rattle.std.proofs.Common.{◌≡◌, ◌≤◌, ℕ, List, Some, None, Result, Ok, Err, refl, sym, subst, ap, ◌∙◌, inl, inr, arith}
use Rattle.std.proofs.lemmas.List.{append-nil}
use Rattle.fixed_decimal.specs.Places.{Places, IsWithinLimit, IsOverLimit}
use Rattle.fixed_decimal.specs.Shown.{decimal_text, CompactReadAgain}
use Rattle.fixed_decimal.specs.Written.{CompactNumber, WritesUnsigned, WritesCompact, IsCompactOverLimit, OneCompact}
use Rattle.fixed_decimal.specs.declared.decimal.Decimal.{Decimal}
use Rattle.fixed_decimal.specs.declared.error.DecimalError.{DecimalError}
use Rattle.fixed_decimal.specs.declared.error.DecimalError.TheVariants as number
use Rattle.plural_base.specs.FiveRules.{FiveRules}
use Rattle.message_pattern.specs.PatternParts.{Part, Branching}
use Rattle.message_format.specs.declared.error.ArgumentFault.TheVariants.{OverLimit}
use Rattle.message_format.specs.declared.error.FormatError.{FormatError}
use Rattle.message_format.specs.declared.error.FormatError.TheVariants as error
use Rattle.message_format.specs.FormatBranches.{IsBranchOfNumber}
use Rattle.message_format.specs.FormatOffsets.{IsDifference, plain}
use Rattle.message_format.specs.FormatSteps.{Step, Chooses, Fails, StepsFromNumber, IsCountedBy, IsLess, IsCountedLess}
use Rattle.message_format.specs.Inner.FormatViews.{Choice, step_view, GivesFault, GivesStep, fault_step, number_step}
use Rattle.message_format.proofs.Equal.{within, refused}

-- what follows from each step follows from what is returned
pub fault_gives : (e : FormatError) (P Q : Step → Type 0) → ((s : Step) → P s → Q s) → GivesFault P e → GivesFault Q e
fault_gives (error.Argument fault name) P Q f h = f (Fails fault name.now) h
fault_gives error.Memory P Q f h = tt

pub gives : {A : Type 0} (parts : A → List Part) (r : Result (Choice A) FormatError) (P Q : Step → Type 0) → ((s : Step) → P s → Q s)
    → GivesStep parts P r → GivesStep parts Q r
gives parts (Ok s) P Q f h = f (step_view parts s) h
gives parts (Err e) P Q f h = fault_gives e P Q f h

not_over : (x : Places) → IsWithinLimit x → IsOverLimit x → ⊥
not_over x w (inl h) = omega (arith, w.whole)
not_over x w (inr h) = omega (arith, w.fraction)

-- ---- the text of a difference

-- a text that is a difference's
abbrev pub IsTextOfLess : Decimal → Places → List ℕ → Type 0
IsTextOfLess x o text = (d : Decimal) × IsDifference x o d × (text ≡ decimal_text d)

-- it writes the difference
pub writes_plain : CompactReadAgain → (x : Decimal) (o : Places) (text : List ℕ) (s : IsTextOfLess x o text)
    → WritesCompact text (plain s.0)
writes_plain again x o text s =
    let zero : 0 ≤ 255 = omega arith in
    subst (λ (t : List ℕ). WritesCompact t (plain s.0)) (append-nil (decimal_text s.0) ∙ sym s.2) (again (plain s.0) s.1.written zero)

-- another number that it writes is the same
module _ (one : OneCompact) (again : CompactReadAgain) (rules : FiveRules) (name : List ℕ) (bs : List Branching) (x : CompactNumber)
    (o : Places) (text shown : List ℕ)
    (same : shown ≡ text) (s : IsTextOfLess x.significand o text) where
  is_plain : (y : CompactNumber) → WritesCompact shown y → y ≡ plain s.0
  is_plain y w = one text y (plain s.0) (subst (λ (t : List ℕ). WritesCompact t y) same w) (writes_plain again x.significand o text s)

  pub chosen : (less : CompactNumber) (parts : List Part) → WritesCompact shown less → IsWithinLimit less.significand.absolute
      → IsBranchOfNumber rules x less bs parts
      → (d : Decimal) × IsDifference x.significand o d × IsCountedBy rules name bs x d (Chooses text parts)
  chosen less parts w l h =
      let e : less ≡ plain s.0 = is_plain less w in
      let limit : IsWithinLimit s.0.absolute = subst (λ (y : CompactNumber). IsWithinLimit y.significand.absolute) e l in (
        s.0,
        s.1,
        inr (
          not_over s.0.absolute
              limit,
          (
            parts,
            subst (λ (y : CompactNumber). IsBranchOfNumber rules x y bs parts) e h,
            ap (λ (t : List ℕ). Chooses t parts)
                s.2,
          ),
        ),
      )

  over : (y : CompactNumber) × WritesCompact shown y × IsCompactOverLimit y
      → (d : Decimal) × IsDifference x.significand o d × IsCountedBy rules name bs x d (Fails OverLimit name)
  over w = elim (subst (λ (y : CompactNumber). IsCompactOverLimit y) (is_plain w.0 w.1) w.2) [
    | inl h ↦ (s.0, s.1, inl (h, refl))
    | inr h ↦ absurd (omega arith)
  ]

  -- it is over the limit, or memory ran out
  pub less_refused : {B : Type 0} (r : Result B DecimalError) (e : DecimalError) (f : FormatError) → r ≡ Err e
      → fault_step f ≡ number_step name e
      → (r ≡ Err number.Syntax → (y : CompactNumber) → WritesCompact shown y → ⊥)
      → (r ≡ Err number.Limit → (y : CompactNumber) × WritesCompact shown y × IsCompactOverLimit y)
      → GivesFault (λ (t : Step). (d : Decimal) × IsDifference x.significand o d × IsCountedBy rules name bs x d t) f
  less_refused r number.Syntax f is e none limit =
      absurd (none is (plain s.0)
      (subst (λ (t : List ℕ). WritesCompact t (plain s.0)) (sym same) (writes_plain again x.significand o text s)))
  less_refused r number.Limit (error.Argument fault n) is e none limit =
      let both : Some (Fails fault n.now) ≡ Some (Fails OverLimit name) = e in
      let step : Fails OverLimit name ≡ Fails fault n.now = cc in
      subst (λ (t : Step). (d : Decimal) × IsDifference x.significand o d × IsCountedBy rules name bs x d t) step (over (limit is))
  less_refused r number.Memory (error.Argument fault n) is e none limit = let both : Some (Fails fault n.now) ≡ None = e in cc
  less_refused r number.Limit error.Memory is e none limit = tt
  less_refused r number.Memory error.Memory is e none limit = tt

-- ---- the text of an offset

module _ (rules : FiveRules) (name : List ℕ) (bs : List Branching) (digits : List ℕ) (x : CompactNumber) (plain_number : x.exponent ≡ 0)
  where
    -- the step from an offset
    abbrev From : Places → Step → Type 0
    From o s = (d : Decimal) × IsDifference x.significand o d × IsCountedBy rules name bs x d s

    pub offset_refused : {B : Type 0} (r : Result B DecimalError) (e : DecimalError) (f : FormatError) → r ≡ Err e
        → fault_step f ≡ number_step name e
        → (r ≡ Err number.Syntax → (o : Places) → WritesUnsigned digits o → ⊥)
        → (r ≡ Err number.Limit → (o : Places) × WritesUnsigned digits o × IsOverLimit o)
        → GivesFault (λ (s : Step). IsLess rules name bs digits x s) f
    offset_refused r e f is step none limit =
        fault_gives f (λ (s : Step). StepsFromNumber (λ o. WritesUnsigned digits o) (λ o. IsOverLimit o) name (λ o t. From o t) s)
        (λ (s : Step). IsLess rules name bs digits x s)
        (λ s k. inr (plain_number, k))
        (refused (λ o. WritesUnsigned digits o) (λ o. IsOverLimit o) name (λ o t. From o t) r e f is step none limit)

    pub offset_gives : {A : Type 0} (parts : A → List Part) (o : Places) (r : Result (Choice A) FormatError) → WritesUnsigned digits o
        → IsWithinLimit o
        → GivesStep parts (λ (s : Step). From o s) r → GivesStep parts (λ (s : Step). IsLess rules name bs digits x s) r
    offset_gives parts o r w l h =
        gives parts r (λ (s : Step). From o s) (λ (s : Step). IsLess rules name bs digits x s)
        (λ s k. inr (plain_number, inr (inr (o, w, not_over o l, k)))) h

-- ---- the text of a number

pub number_gives : {A : Type 0} (parts : A → List Part) (rules : FiveRules) (name : List ℕ) (bs : List Branching) (digits text : List ℕ)
    (x : CompactNumber) (r : Result (Choice A) FormatError)
    → WritesCompact text x → IsWithinLimit x.significand.absolute → x.exponent ≤ 255
    → GivesStep parts (λ (s : Step). IsLess rules name bs digits x s) r
    → GivesStep parts (λ (s : Step). IsCountedLess rules name bs digits text s) r
number_gives parts rules name bs digits text x r w l e h =
    gives parts r (λ (s : Step). IsLess rules name bs digits x s) (λ (s : Step). IsCountedLess rules name bs digits text s)
    (λ s k. inr (inr (x, w, within x l e, k))) h

pub number_refused : {B : Type 0} (rules : FiveRules) (name : List ℕ) (bs : List Branching) (digits text : List ℕ)
    (r : Result B DecimalError) (e : DecimalError) (f : FormatError)
    → r ≡ Err e → fault_step f ≡ number_step name e
    → (r ≡ Err number.Syntax → (x : CompactNumber) → WritesCompact text x → ⊥)
    → (r ≡ Err number.Limit → (x : CompactNumber) × WritesCompact text x × IsCompactOverLimit x)
    → GivesFault (λ s. IsCountedLess rules name bs digits text s) f
number_refused rules name bs digits text r e f is same none over =
    refused (λ x. WritesCompact text x) (λ x. IsCompactOverLimit x) name (λ x s. IsLess rules name bs digits x s) r e f is same none over
