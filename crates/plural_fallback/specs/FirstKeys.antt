-- The first locale of a chain that has a key.
--     locale_at next locale n      the locale after n steps of a chain, if the chain is that long
--     key_at keys next locale n      its key
--     IsFirstKey most key found      the first key, among those after fewer than `most` steps
--     Misses most locale key absent error      why there is none, or nothing is loaded for it
--     LoadsFirst most keys next locale has seen result      what the first key has, or why not
use Rattle.std.specs.Prelude.{◌≡◌, ℕ, zero, suc, ◌<◌, ◌≤◌, List, codes, Option, Some, None, option_and_then, Result, Ok, Err}
use Rattle.std.specs.Option.{IsSome}
use Rattle.plural_fallback.specs.LocaleNames.{key_of}
use Rattle.plural_fallback.specs.declared.provider.Loaded.{Loaded}
use Rattle.plural_fallback.specs.declared.error.FallbackError.{FallbackError}
use Rattle.plural_fallback.specs.declared.error.FallbackError.TheVariants.{NotFound, LongChain, NotLoaded}

unfoldable pub locale_at : (List ℕ → Option (List ℕ)) → List ℕ → ℕ → Option (List ℕ)
locale_at next locale zero = Some locale
locale_at next locale (suc n) = option_and_then next (locale_at next locale n)

abbrev pub key_at : List (List ℕ) → (List ℕ → Option (List ℕ)) → List ℕ → ℕ → Option (List ℕ)
key_at keys next locale n = option_and_then (key_of keys) (locale_at next locale n)

-- after fewer steps there is no key
abbrev pub NoneBefore : ℕ → (ℕ → Option (List ℕ)) → Type 0
NoneBefore n key = (m : ℕ) → m < n → key m ≡ None

abbrev pub IsFirstKey : ℕ → (ℕ → Option (List ℕ)) → List ℕ → Type 0
IsFirstKey most key found = (n : ℕ) × (n < most) × (key n ≡ Some found) × NoneBefore n key

-- the chain ends, or goes on, without a key; or what the first key has is absent
abbrev pub Misses : ℕ → (ℕ → Option (List ℕ)) → (ℕ → Option (List ℕ)) → (List ℕ → Type 0) → FallbackError → Type 0
Misses most locale key absent NotFound = (n : ℕ) × (n ≤ most) × (locale n ≡ None) × NoneBefore n key
Misses most locale key absent LongChain = IsSome (locale most) × NoneBefore most key
Misses most locale key absent NotLoaded = (found : List ℕ) × IsFirstKey most key found × absent found

-- what is loaded is seen as what the first key has; or why nothing is loaded
abbrev pub LoadsFirst : {A R : Type 0} → ℕ → List (List ℕ) → (List ℕ → Option (List ℕ)) → List ℕ → (List ℕ → Option A) → (R → A)
    → Result (Loaded R) FallbackError → Type 0
LoadsFirst most keys next locale has seen (Ok loaded) =
    IsFirstKey most (key_at keys next locale) loaded.key.now × (has loaded.key.now ≡ Some (seen loaded.value))
LoadsFirst most keys next locale has seen (Err error) =
    Misses most (locale_at next locale) (key_at keys next locale) (λ key. has key ≡ None) error

-- the text of an error
abbrev pub fallback_error_text : FallbackError → List ℕ
fallback_error_text NotFound = codes "no locale of the chain is found"
fallback_error_text LongChain = codes "the chain of parents doesn't end"
fallback_error_text NotLoaded = codes "nothing is loaded for the key"
