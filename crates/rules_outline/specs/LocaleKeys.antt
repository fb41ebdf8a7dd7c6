-- The key that a part of a document has for a locale: the first one along the locale's chain.
--     IsKeyOf document part locale key      the first key
--     HasNoKey document part locale reason      there is none, for this reason
--     value_at_key document part key      what stands under a key
use Rattle.std.specs.Prelude.{ℕ, List, Option}
use Rattle.std.specs.Option.{option_and_then}
use Rattle.plural_fallback.specs.Chain.{next_of}
use Rattle.plural_fallback.specs.FirstKeys.{IsFirstKey, Misses, key_at, locale_at}
use Rattle.plural_fallback.specs.LocalesJson.{keys_under, parent_in, part_name}
use Rattle.plural_fallback.specs.declared.error.FallbackError.{FallbackError}
use Rattle.plural_fallback.specs.declared.locales.Part.{Part}
use Rattle.serde_json.specs.Data.{Data}
use Rattle.serde_json.specs.Find.{get}

-- how many locales of a chain are looked up at most
abbrev pub most_locales : ℕ
most_locales = 32

-- the key of a locale after some steps of the chain
abbrev pub key_after : Data → Part → List ℕ → ℕ → Option (List ℕ)
key_after document part locale = key_at (keys_under (part_name part) document) (next_of (parent_in document)) locale

abbrev pub IsKeyOf : Data → Part → List ℕ → List ℕ → Type 0
IsKeyOf document part locale key = IsFirstKey most_locales (key_after document part locale) key

abbrev pub HasNoKey : Data → Part → List ℕ → FallbackError → Type 0
HasNoKey document part locale reason =
    Misses most_locales (locale_at (next_of (parent_in document)) locale) (key_after document part locale) (λ _. ⊥) reason

abbrev pub value_at_key : Data → Part → List ℕ → Option Data
value_at_key document part key = option_and_then (get key) (get (part_name part) document)
