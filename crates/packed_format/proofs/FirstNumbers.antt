-- The first branch that is chosen is one by a number.
use Rattle.std.proofs.Common.{◌≡◌, ◌+◌, ◌-◌, ◌<◌, ℕ, suc, List, [], ◌∷◌, drop, refl, sym, subst, inl, inr, arith, Option, Some, None}
use Rattle.std.specs.Prelude.{IfSome}
use Rattle.message_pattern.specs.PatternParts.{Part, Selector, Exactly, Keyword, Branching, branches_of}
use Rattle.message_format.specs.FormatParts.{IsFirstChosen}
use Rattle.packed_format.specs.Inner.PackedSteps.{numbers_of, AreNext}

-- the first from a place on, or none
abbrev pub FirstFrom : (Selector → Type 0) → ℕ → List Part → Option ℕ → Option (List Part) → Type 0
FirstFrom P depth parts None found = found ≡ None
FirstFrom P depth parts (Some at) found = IsFirstChosen P (branches_of depth (drop at parts)) found

-- what is next is behind
pub next_behind : (depth : ℕ) (parts : List Part) (index : ℕ) (next : Option ℕ) → AreNext depth parts index next
    → IfSome next (λ (at : ℕ). index < at)
next_behind depth parts index None e = tt
next_behind depth parts index (Some at) e = e.0

pub further : (index at : ℕ) (next : Option ℕ) → index < at → IfSome next (λ (k : ℕ). at < k) → IfSome next (λ (k : ℕ). index < k)
further index at None h k = tt
further index at (Some n) h k = omega arith

-- how many parts are left
abbrev pub left_from : ℕ → Option ℕ → ℕ
left_from count None = 0
left_from count (Some at) = suc (count - at)

pub fewer_left : (count at : ℕ) (next : Option ℕ) → at < count → IfSome next (λ (k : ℕ). at < k) → left_from count next < suc (count - at)
fewer_left count at None h k = omega arith
fewer_left count at (Some n) h k = omega arith

module _ (P : Selector → Type 0) (never : (word : List ℕ) → P (Keyword word) → ⊥) where
  pub of_numbers : (bs : List Branching) (found : Option (List Part)) → IsFirstChosen P (numbers_of bs) found → IsFirstChosen P bs found
  of_numbers [] found h = h
  of_numbers (b ∷ bs) found h = this b.selector refl h (of_numbers bs found)
    where
      this : (s : Selector) → b.selector ≡ s → IsFirstChosen P (numbers_of (b ∷ bs)) found
          → (IsFirstChosen P (numbers_of bs) found → IsFirstChosen P bs found) → IsFirstChosen P (b ∷ bs) found
      this (Exactly number) is k more = elim (rw is at k) [
        | inl here ↦ inl here
        | inr later ↦ inr (later.0, more later.1)
      ]
      this (Keyword word) is k more = inr (rw is (never word), more (rw is at k))

  pub to_numbers : (bs : List Branching) (found : Option (List Part)) → IsFirstChosen P bs found → IsFirstChosen P (numbers_of bs) found
  to_numbers [] found h = h
  to_numbers (b ∷ bs) found h = this b.selector refl h (to_numbers bs found)
    where
      this : (s : Selector) → b.selector ≡ s → IsFirstChosen P (b ∷ bs) found → (IsFirstChosen P bs found → IsFirstChosen P (numbers_of bs) found)
          → IsFirstChosen P (numbers_of (b ∷ bs)) found
      this (Exactly number) is (inl here) more = rw is (inl here)
      this (Exactly number) is (inr later) more = rw is (inr (later.0, more later.1))
      this (Keyword word) is (inl here) more = absurd (never word (rw is at here.0))
      this (Keyword word) is (inr later) more = rw is (more later.1)

  -- is the first behind a part from which it is the next
  pub first_behind : (depth : ℕ) (parts : List Part) (index : ℕ) (next : Option ℕ) (found : Option (List Part))
      → AreNext depth parts index next
      → FirstFrom P depth parts next found → IsFirstChosen P (branches_of depth (drop (index + 1) parts)) found
  first_behind depth parts index None found e h =
      of_numbers (branches_of depth (drop (index + 1) parts)) found (subst (λ (bs : List Branching). IsFirstChosen P bs found) (sym e) h)
  first_behind depth parts index (Some at) found e h =
      of_numbers (branches_of depth (drop (index + 1) parts)) found
      (subst (λ (bs : List Branching). IsFirstChosen P bs found) e.2 (to_numbers (branches_of depth (drop at parts)) found h))
