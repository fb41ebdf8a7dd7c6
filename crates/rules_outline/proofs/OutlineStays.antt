-- Whether a chain stays inside of its language, step by step.
use Rattle.std.proofs.Common.{◌≡◌, ℕ, zero, suc, ◌+◌, ◌-◌, ◌<◌, ◌≤◌, List, Bool, true, false, Option, Some, None, Ok, Err}
use Rattle.std.proofs.Common.{below_more, refl, sym, ap, subst, ◌∙◌, arith}
use Rattle.std.proofs.Math.Nat.{add-suc, add-zero}
use Rattle.std.proofs.lemmas.Grind.{common_steps}
use Rattle.std.specs.Prelude.{nat_lt, option_and_then, unwrap_or}
use Rattle.plural_fallback.specs.Chain.{next_of}
use Rattle.plural_fallback.specs.FirstKeys.{NoneBefore, locale_at}
use Rattle.plural_fallback.specs.LocaleNames.{key_of}
use Rattle.plural_fallback.specs.LocalesJson.{keys_under, parent_in, part_name}
use Rattle.plural_fallback.specs.declared.error.FallbackError.TheVariants.{NotFound}
use Rattle.plural_fallback.specs.declared.locales.Part.{Part}
use Rattle.serde_json.specs.Data.{Data}
use Rattle.rules_outline.specs.Inner.RulesOutline.{IsFirstInside, IsInsideAt, StaysInside, is_inside}
use Rattle.rules_outline.specs.LocaleKeys.{key_after}
use Rattle.rules_outline.specs.declared.outline.KeptLocales.{KeptLocales}

module _ (locales : KeptLocales) (document : Data) (part : Part) (locale : List ℕ) where
  abbrev pub at : ℕ → Option (List ℕ)
  at n = locale_at (next_of (parent_in document)) locale n

  abbrev pub key : ℕ → Option (List ℕ)
  key n = key_after document part locale n

  -- the chain is at a locale, and has been inside so far
  abbrev pub IsAt : ℕ → List ℕ → Type 0
  IsAt n current =
      (at n ≡ Some current) × NoneBefore n key × ((m : ℕ) → m < n → IsInsideAt locales document part locale m)

  pub at_first : IsAt 0 locale
  unfolding locale_at
  at_first = (refl, λ m below. absurd (omega arith), λ m below. absurd (omega arith))

  one_more : (n : ℕ) → n + 1 ≡ suc n
  one_more n = omega arith

  next_at : (n : ℕ) (current : List ℕ) → at n ≡ Some current → at (n + 1) ≡ next_of (parent_in document) current
  unfolding locale_at
  next_at n current here = ap at (one_more n) ∙ ap (option_and_then (next_of (parent_in document))) here

  -- nothing comes after the end
  none_after : (n m : ℕ) → at n ≡ None → at (n + m) ≡ None
  unfolding locale_at
  none_after n zero none = rw add-zero none
  none_after n (suc m) none = rw add-suc (ap (option_and_then (next_of (parent_in document))) (none_after n m none))

  module _ (n : ℕ) (current : List ℕ) (now : IsAt n current) where
    -- the locale is inside
    inside_next : is_inside locales current ≡ true → (m : ℕ) → m < n + 1 → IsInsideAt locales document part locale m
    inside_next inside = below_more (IsInsideAt locales document part locale) n now.2 here
      where
        here : IsInsideAt locales document part locale n
        here other none is =
            subst (λ (l : List ℕ). is_inside locales l ≡ true) (ap (λ o. unwrap_or o current) (sym now.0 ∙ is)) inside

    key_here : key n ≡ key_of (keys_under (part_name part) document) current
    key_here = ap (option_and_then (key_of (keys_under (part_name part) document))) now.0

    pub goes_on : (next : List ℕ) → is_inside locales current ≡ true → key_of (keys_under (part_name part) document) current ≡ None
        → next_of (parent_in document) current ≡ Some next → IsAt (n + 1) next
    goes_on next inside none is = (
      next_at n current now.0 ∙ is,
      below_more (λ m. key m ≡ None) n now.1 (key_here ∙ none),
      inside_next inside,
    )

    stays_to_key : (found : List ℕ) → is_inside locales current ≡ true → key_of (keys_under (part_name part) document) current ≡ Some found
        → StaysInside locales document part locale
    stays_to_key found inside is m within other none here = by (nat_lt m (n + 1)) refl
      where
        by : (b : Bool) → nat_lt m (n + 1) ≡ b → is_inside locales other ≡ true
        by true lower = inside_next inside m (grind (arith, common_steps, lower)) other none here
        by false higher =
            let after : n < m = grind (arith, common_steps, higher) in
            let never : Some found ≡ None = sym (key_here ∙ is) ∙ none n after in absurd (cc)

    -- a key is found
    pub finds : (found : List ℕ) → n < 16 → is_inside locales current ≡ true
        → key_of (keys_under (part_name part) document) current ≡ Some found → IsFirstInside locales document part locale (Ok found)
    finds found below inside is = (stays_to_key found inside is, (n, omega arith, key_here ∙ is, now.1))

    stays_to_end : is_inside locales current ≡ true → next_of (parent_in document) current ≡ None → StaysInside locales document part locale
    stays_to_end inside is m within other none here = by (nat_lt m (n + 1)) refl
      where
        by : (b : Bool) → nat_lt m (n + 1) ≡ b → is_inside locales other ≡ true
        by true lower = inside_next inside m (grind (arith, common_steps, lower)) other none here
        by false higher =
            let after : n + 1 ≤ m = grind (arith, common_steps, higher) in
            let whole : (n + 1) + (m - (n + 1)) ≡ m = omega arith in
            let over : at m ≡ None = rw whole at (none_after (n + 1) (m - (n + 1)) (next_at n current now.0 ∙ is)) in
            let never : Some other ≡ None = sym here ∙ over in absurd (cc)

    -- or the chain ends
    pub ends : n < 16 → is_inside locales current ≡ true → key_of (keys_under (part_name part) document) current ≡ None
        → next_of (parent_in document) current ≡ None → IsFirstInside locales document part locale (Err NotFound)
    ends below inside none is = (
      stays_to_end inside is,
      (n + 1, omega arith, next_at n current now.0 ∙ is, below_more (λ m. key m ≡ None) n now.1 (key_here ∙ none)),
    )
