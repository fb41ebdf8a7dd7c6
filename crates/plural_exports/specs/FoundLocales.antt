-- The key by which a JSON text has a locale (docs/JSON.md): that of the first locale of its chain that
-- has one in a part.
--     IsKeyIn json locale part answer      the key. Faults are looked for in this order: those of the
--         part, of the locale's text, of the JSON text, no key among the first locales of the chain
use Rattle.std.specs.Prelude.{◌≡◌, ℕ, List, Option, ◌==◌, if◌then◌else◌, Result, Ok, Err}
use Rattle.serde_json.specs.Data.{Data}
use Rattle.plural_documents.specs.Steps.{Then}
use Rattle.plural_fallback.specs.Chain.{next_of}
use Rattle.plural_fallback.specs.FirstKeys.{IsFirstKey, NoneBefore, key_at}
use Rattle.plural_fallback.specs.LocalesJson.{keys_under, parent_in, part_name}
use Rattle.plural_fallback.specs.declared.first_key.TheConstants.{MOST_LOCALES}
use Rattle.plural_fallback.specs.declared.locales.Part.{Part}
use Rattle.plural_fallback.specs.declared.locales.Part.TheVariants.{Cardinal, Ordinal, Ranges}
use Rattle.plural_exports.specs.GivenBytes.{ReadsTextBytes}
use Rattle.plural_exports.specs.GivenDocuments.{ReadsJson}
use Rattle.plural_exports.specs.declared.fault.Fault.{Fault}
use Rattle.plural_exports.specs.declared.fault.Fault.TheVariants.{RuleType, Locale}

-- 0 is cardinal, 1 ordinal, and 2 that of ranges
abbrev pub part_numbered : ℕ → Result Part Fault
part_numbered n = if n == 0 then Ok Cardinal else (if n == 1 then Ok Ordinal else (if n == 2 then Ok Ranges else Err RuleType))

abbrev pub ReadsPart : ℕ → Result Part Fault → Type 0
ReadsPart n answer = answer ≡ part_numbered n

-- the key of the locale after n steps of the chain, by the parents of the same document
abbrev pub key_after_steps : Part → Data → List ℕ → ℕ → Option (List ℕ)
key_after_steps part value locale = key_at (keys_under (part_name part) value) (next_of (parent_in value)) locale

-- the first key of the chain, or there is none
abbrev pub HasKeyAt : Part → List ℕ → Data → Result (List ℕ) Fault → Type 0
HasKeyAt part locale value (Ok key) = IsFirstKey MOST_LOCALES (key_after_steps part value locale) key
HasKeyAt part locale value (Err fault) = NoneBefore MOST_LOCALES (key_after_steps part value locale) × (fault ≡ Locale)

abbrev pub IsKeyIn : List ℕ → List ℕ → ℕ → Result (List ℕ) Fault → Type 0
IsKeyIn bytes locale n = Then (ReadsPart n) (λ part. Then (ReadsTextBytes locale) (λ text. Then (ReadsJson bytes) (HasKeyAt part text)))
