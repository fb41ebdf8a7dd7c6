-- What is kept of a document of rules for one locale, and when it serves as the whole does.
--     Serves part locale kept whole      the locale's first key in the whole is the kept one, and has
--         in the kept document what it has in the whole; or there is none, for the kept reason
--     GivesKeptRules part locale bytes result      so it is of the value that the bytes write
use Rattle.std.specs.Prelude.{◌≡◌, ℕ, ◌<◌, List, length, Some, None, Result, Ok, Err, string_bytes}
use Rattle.plural_documents.specs.Inputs.{json_of}
use Rattle.plural_documents.specs.declared.JsonTextError.{JsonTextError}
use Rattle.plural_documents.specs.declared.JsonTextError.TheVariants as fault
use Rattle.plural_fallback.specs.declared.error.FallbackError.{FallbackError}
use Rattle.plural_fallback.specs.declared.locales.Part.{Part}
use Rattle.serde_json.specs.Data.{Data}
use Rattle.serde_json.specs.View.{view}
use Rattle.rules_outline.specs.LocaleKeys.{HasNoKey, IsKeyOf, value_at_key}
use Rattle.rules_outline.specs.declared.outline.KeptRules.{KeptRules}

-- a key as its text
abbrev pub key_by : {K : Type 0} → (K → List ℕ) → Result K FallbackError → Result (List ℕ) FallbackError
key_by text (Ok key) = Ok (text key)
key_by text (Err reason) = Err reason

-- the first key of the whole has in a document what it has in the whole
abbrev pub ServesAt : Part → List ℕ → Data → Data → Result (List ℕ) FallbackError → Type 0
ServesAt part locale document whole (Ok key) = IsKeyOf whole part locale key × (value_at_key document part key ≡ value_at_key whole part key)
ServesAt part locale document whole (Err reason) = HasNoKey whole part locale reason

-- so has that of what is kept
abbrev pub Serves : Part → List ℕ → KeptRules → Data → Type 0
Serves part locale kept whole = ServesAt part locale (view kept.document) whole (key_by string_bytes kept.key)

-- the same of the value that the bytes write
abbrev pub IsServedBy : Part → List ℕ → List ℕ → KeptRules → Type 0
IsServedBy part locale bytes kept = (whole : Data) × (json_of bytes ≡ Some whole) × Serves part locale kept whole

-- what is kept serves; or the bytes are no JSON text, or memory ran out, which needs a byte
abbrev pub GivesKeptRules : Part → List ℕ → List ℕ → Result KeptRules JsonTextError → Type 0
GivesKeptRules part locale bytes (Ok kept) = IsServedBy part locale bytes kept
GivesKeptRules part locale bytes (Err fault.Json) = json_of bytes ≡ None
GivesKeptRules part locale bytes (Err fault.Memory) = 0 < length bytes
