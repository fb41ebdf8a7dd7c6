-- Chains that go on after all the locales that are looked up.
use Rattle.std.proofs.Common.{◌≡◌, ℕ, zero, suc, ◌+◌, ◌-◌, ◌≤◌, List, false, Option, Some, None, is_some}
use Rattle.std.proofs.Common.{refl, sym, ap, ◌∙◌, arith}
use Rattle.std.specs.Option.{option_and_then}
use Rattle.plural_fallback.specs.FirstKeys.{locale_at}

-- a chain begins with the locale
pub begins : (next : List ℕ → Option (List ℕ)) (locale : List ℕ) → locale_at next locale 0 ≡ Some locale
unfolding locale_at
begins next locale = refl

pub one_more : (next : List ℕ → Option (List ℕ)) (locale : List ℕ) (n : ℕ)
    → locale_at next locale (n + 1) ≡ option_and_then next (locale_at next locale n)
unfolding locale_at
one_more next locale n = let e : n + 1 ≡ suc n = omega arith in ap (locale_at next locale) e

-- and goes on with the next locale of the last one
pub goes_on : (next : List ℕ → Option (List ℕ)) (locale current : List ℕ) (n : ℕ) → locale_at next locale n ≡ Some current
    → locale_at next locale (n + 1) ≡ next current
goes_on next locale current n here = one_more next locale n ∙ ap (option_and_then next) here

-- after its end there is nothing
pub stays_ended : (next : List ℕ → Option (List ℕ)) (locale : List ℕ) (n : ℕ) → locale_at next locale n ≡ None → (k : ℕ)
    → locale_at next locale (n + k) ≡ None
stays_ended next locale n ended zero = let e : n + 0 ≡ n = omega arith in ap (locale_at next locale) e ∙ ended
stays_ended next locale n ended (suc k) =
    let e : n + suc k ≡ (n + k) + 1 = omega arith in
    ap (locale_at next locale) e ∙ one_more next locale (n + k) ∙ ap (option_and_then next) (stays_ended next locale n ended k)

pub has_ended : (next : List ℕ → Option (List ℕ)) (locale : List ℕ) (n most : ℕ) → n ≤ most → locale_at next locale n ≡ None
    → false ≡ is_some (locale_at next locale most)
has_ended next locale n most within ended =
    let e : n + (most - n) ≡ most = omega arith in
    sym (ap is_some (ap (locale_at next locale) (sym e) ∙ stays_ended next locale n ended (most - n)))
