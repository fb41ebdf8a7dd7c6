-- A chain without a key.
use Rattle.std.proofs.Common.{◌≡◌, ℕ, zero, suc, ◌+◌, ◌-◌, List, Option, None, sym, ap, ◌∙◌, arith, ⊎_elim}
use Rattle.std.specs.Option.{option_and_then}
use Rattle.std.proofs.lemmas.Bool.{cases_lt}
use Rattle.plural_fallback.specs.FirstKeys.{Misses, NoneBefore, key_at, locale_at}
use Rattle.plural_fallback.specs.LocaleNames.{key_of}
use Rattle.plural_fallback.specs.declared.error.FallbackError.{FallbackError}
use Rattle.plural_fallback.specs.declared.error.FallbackError.TheVariants.{NotFound, LongChain, NotLoaded}

one_more : (next : List ℕ → Option (List ℕ)) (locale : List ℕ) (n : ℕ)
    → locale_at next locale (n + 1) ≡ option_and_then next (locale_at next locale n)
unfolding locale_at
one_more next locale n = let e : n + 1 ≡ suc n = omega arith in ap (locale_at next locale) e

-- after the end of a chain there is no locale
stays_ended : (next : List ℕ → Option (List ℕ)) (locale : List ℕ) (n : ℕ) → locale_at next locale n ≡ None → (k : ℕ)
    → locale_at next locale (n + k) ≡ None
stays_ended next locale n ended zero = let e : n + 0 ≡ n = omega arith in ap (locale_at next locale) e ∙ ended
stays_ended next locale n ended (suc k) =
    let e : n + suc k ≡ (n + k) + 1 = omega arith in
    ap (locale_at next locale) e ∙ one_more next locale (n + k) ∙ ap (option_and_then next) (stays_ended next locale n ended k)

-- no locale has a key, whether the chain ends or goes on
pub none_found : (keys : List (List ℕ)) (next : List ℕ → Option (List ℕ)) (locale : List ℕ) (most : ℕ) (error : FallbackError)
    → Misses most (locale_at next locale) (key_at keys next locale) (λ _. ⊥) error → NoneBefore most (key_at keys next locale)
none_found keys next locale most NotFound missed m below =
    let n = missed.0 in
    ⊎_elim
    (λ before. missed.3 m before)
    (λ after. (let e : n + (m - n) ≡ m = omega arith in
    ap (option_and_then (key_of keys)) (ap (locale_at next locale) (sym e) ∙ stays_ended next locale n missed.2 (m - n))))
    (cases_lt m n)
none_found keys next locale most LongChain missed m below = missed.1 m below
none_found keys next locale most NotLoaded missed m below = absurd missed.2
