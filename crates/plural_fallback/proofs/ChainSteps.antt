-- Steps along a chain.
use Rattle.std.proofs.Common.{ℕ, suc, ◌+◌, ◌<◌, List, Option, Some, None, ◌≡◌, refl, sym, ap, subst, ◌∙◌, arith, below_more}
use Rattle.std.specs.Prelude.{option_and_then}
use Rattle.std.specs.Option.{is_some}
use Rattle.plural_fallback.specs.LocaleNames.{key_of}
use Rattle.plural_fallback.specs.FirstKeys.{key_at, locale_at, NoneBefore, IsFirstKey, Misses}
use Rattle.plural_fallback.specs.declared.error.FallbackError.TheVariants.{NotFound, LongChain}

-- the chain begins with the locale
pub begins : (next : List ℕ → Option (List ℕ)) (locale : List ℕ) → locale_at next locale 0 ≡ Some locale
unfolding locale_at
begins next locale = refl

-- after one step more there is the next locale of the last one
goes_on : (next : List ℕ → Option (List ℕ)) (locale current : List ℕ) (n : ℕ) → locale_at next locale n ≡ Some current → locale_at next locale (n + 1) ≡ next current
unfolding locale_at
goes_on next locale current n here =
    let one_more : n + 1 ≡ suc n = omega arith in
    ap (locale_at next locale) one_more ∙ ap (option_and_then next) here

module _ (keys : List (List ℕ)) (next : List ℕ → Option (List ℕ)) (locale current : List ℕ) (n : ℕ) (here : locale_at next locale n ≡ Some current) where
  -- the key there
  key_here : key_at keys next locale n ≡ key_of keys current
  key_here = ap (option_and_then (key_of keys)) here

  pub advances : (further : List ℕ) → Some further ≡ next current → locale_at next locale (n + 1) ≡ Some further
  advances further is = goes_on next locale current n here ∙ sym is

  pub none_yet : None ≡ key_of keys current → NoneBefore n (key_at keys next locale) → NoneBefore (n + 1) (key_at keys next locale)
  none_yet none before = below_more (λ m. key_at keys next locale m ≡ None) n before (key_here ∙ sym none)

  pub finds : (most : ℕ) (found : List ℕ) → n < most → Some found ≡ key_of keys current → NoneBefore n (key_at keys next locale) → IsFirstKey most (key_at keys next locale) found
  finds most found below is before = (n, below, key_here ∙ sym is, before)

  pub ends : (most : ℕ) (absent : List ℕ → Type 0) → n < most → None ≡ key_of keys current → None ≡ next current → NoneBefore n (key_at keys next locale) → Misses most (locale_at next locale) (key_at keys next locale) absent NotFound
  ends most absent below none last before = (n + 1, omega arith, goes_on next locale current n here ∙ sym last, none_yet none before)

  pub stays_long : (most : ℕ) (absent : List ℕ → Type 0) → n ≡ most → NoneBefore n (key_at keys next locale) → Misses most (locale_at next locale) (key_at keys next locale) absent LongChain
  stays_long most absent all before =
      subst (λ m. Misses m (locale_at next locale) (key_at keys next locale) absent LongChain) all (ap is_some here, before)
