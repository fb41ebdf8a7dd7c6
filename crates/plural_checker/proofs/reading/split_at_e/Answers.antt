use Rattle.std.proofs.Common.{◌≡◌, ◌<◌, ◌∙◌, ◌++◌, ℕ, List, Bool, true, false, length, get_or, refl, sym, subst, arith}
use Rattle.std.specs.Prelude.{◌==◌, nat_lt, codes, if◌then◌else◌}
use Rattle.std.specs.List.{list_any, position_or_len, before_first, after_first}
use Rattle.std.proofs.lemmas.Bool.Decides.{nat_tests}
use Rattle.std.proofs.lemmas.List.Folds.{list_any_at}
use Rattle.std.proofs.lemmas.List.Sums.{position_or_len_is}
use Rattle.icu_plurals.specs.Samples.{letter_e}
use Rattle.plural_checker.proofs.reading.split_at_e.Goals as goal

-- where no element passes, none at a place does
none_at : (p : ℕ → Bool) (xs : List ℕ) → list_any p xs ≡ false → (k : ℕ) → k < length xs → p (get_or xs k 0) ≡ false
none_at p xs none k within = this (p (get_or xs k 0)) refl
  where
    this : (b : Bool) → p (get_or xs k 0) ≡ b → p (get_or xs k 0) ≡ false
    this true is = let some : list_any p xs ≡ true = list_any_at p xs k 0 within is in cc
    this false is = is

-- so the first that passes isn't within
none_within : (p : ℕ → Bool) (xs : List ℕ) → list_any p xs ≡ false → nat_lt (position_or_len p xs) (length xs) ≡ false
none_within p xs none =
    let last : position_or_len p xs ≡ length xs =
    position_or_len_is p xs (length xs) 0 (omega arith) (none_at p xs none) (λ l. absurd (omega arith)) in
    grind (arith, nat_tests)

pub returns-then-not-contains : goal.returns-then-not-contains
returns-then-not-contains c =
    let text = c.args.sample.now in
    let same : c.as_bytes.result.now ≡ text = c.as_bytes.ensures.value ∙ (c.as_str-text.ensures.value ∙ c.sample.view_is) in
    let none : list_any (λ b. b == letter_e) text ≡ false =
    subst (λ (l : List ℕ). list_any (λ b. b == letter_e) l ≡ false) same (sym c.contains.ensures.value ∙ c.if-not-contains.true) in
    subst (λ (b : Bool). (if b then before_first (λ x. x == letter_e) text ++ codes "c" ++ after_first (λ x. x == letter_e) text else text)
    ≡ text) (sym (none_within (λ b. b == letter_e) text none)) refl
