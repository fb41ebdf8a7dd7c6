-- Languages that are unknown: the first key of the chain is `root`, which a locale didn't ask for.
--     is_unknown locale key      so it is, where this is the first key of the locale's chain
--     IsKnownLanguage cardinal ordinal next locale      among the cardinal or the ordinal keys there
--         is a first key that isn't so
--     IsUnknownLanguage cardinal ordinal next locale      there is none
use Rattle.std.specs.Prelude.{◌≡◌, ◌⊎◌, ℕ, List, codes, Bool, true, false, Option, not, ◌&&◌, ◌||◌}
use Rattle.plural_fallback.specs.FirstKeys.{IsFirstKey, Misses, key_at, locale_at}
use Rattle.plural_fallback.specs.LocaleNames.{is_same, language}
use Rattle.plural_fallback.specs.declared.error.FallbackError.{FallbackError}
use Rattle.plural_fallback.specs.declared.first_key.TheConstants.{MOST_LOCALES}

-- `root`, or `und`, which is no language's name (UTS 35 Part 1, Unknown or Invalid Identifiers)
abbrev pub is_root_or_und : List ℕ → Bool
is_root_or_und subtag = is_same subtag (codes "root") || is_same subtag (codes "und")

abbrev pub is_unknown : List ℕ → List ℕ → Bool
is_unknown locale key = is_same key (codes "root") && not (is_root_or_und (language locale))

-- a key along the chain, of the locale's language: the first one isn't `root`, or that was asked for
abbrev pub HasOwnKey : List (List ℕ) → (List ℕ → Option (List ℕ)) → List ℕ → Type 0
HasOwnKey keys next locale =
    (key : List ℕ) × IsFirstKey MOST_LOCALES (key_at keys next locale) key × (is_unknown locale key ≡ false)

-- none, or `root` alone, which wasn't asked for
abbrev pub HasNoOwnKey : List (List ℕ) → (List ℕ → Option (List ℕ)) → List ℕ → Type 0
HasNoOwnKey keys next locale =
    (error : FallbackError)
    × Misses MOST_LOCALES (locale_at next locale) (key_at keys next locale) (λ key. is_unknown locale key ≡ true) error

-- there are rules of the language, for cardinal or for ordinal numbers
abbrev pub IsKnownLanguage : List (List ℕ) → List (List ℕ) → (List ℕ → Option (List ℕ)) → List ℕ → Type 0
IsKnownLanguage cardinal ordinal next locale = HasOwnKey cardinal next locale ⊎ HasOwnKey ordinal next locale

abbrev pub IsUnknownLanguage : List (List ℕ) → List (List ℕ) → (List ℕ → Option (List ℕ)) → List ℕ → Type 0
IsUnknownLanguage cardinal ordinal next locale = HasNoOwnKey cardinal next locale × HasNoOwnKey ordinal next locale
