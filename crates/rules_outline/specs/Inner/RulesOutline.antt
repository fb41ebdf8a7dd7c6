-- Not a definition of the subject: what a sieve keeps_rules of a document of rules, and when a chain stays
-- inside of it.
use Rattle.std.specs.Prelude.{◌≡◌, ℕ, ◌<◌, List, [], ◌∷◌, codes, Bool, true, ◌||◌, bytes_eq, length, map, take, Some, Result, Ok, Err, if◌then◌else◌}
use Rattle.std.specs.Borrow.{Bor}
use Rattle.std.specs.List.{list_any}
use Rattle.plural_documents.specs.Outlines.{HeldText}
use Rattle.plural_documents.specs.declared.Portion.{Portion}
use Rattle.plural_documents.specs.declared.Portion.TheVariants as kept
use Rattle.plural_fallback.specs.Chain.{next_of}
use Rattle.plural_fallback.specs.FirstKeys.{NoneBefore, locale_at}
use Rattle.plural_fallback.specs.LocaleNames.{is_same}
use Rattle.plural_fallback.specs.LocalesJson.{parent_in, part_name}
use Rattle.plural_fallback.specs.declared.error.FallbackError.{FallbackError}
use Rattle.plural_fallback.specs.declared.locales.Part.{Part}
use Rattle.serde_json.specs.Data.{Data}
use Rattle.rules_outline.specs.LocaleKeys.{HasNoKey, IsKeyOf, key_after, most_locales}
use Rattle.rules_outline.specs.declared.outline.KeptLocales.{KeptLocales}
use Rattle.rules_outline.specs.declared.outline.KeptLocales.TheVariants.{All, Fronts, These}
use Rattle.rules_outline.specs.declared.outline.RulesSieve.{RulesSieve}
use Rattle.rules_outline.specs.declared.outline.RulesSieve.TheVariants.{Document, Keys, Parents}

-- ---- What is kept

-- the locales of a list
abbrev pub steps_view : List (Bor (List ℕ)) → List (List ℕ)
steps_view steps = map (λ step. step.now) steps

-- a locale is the same as one of these
abbrev pub is_among : List ℕ → List (List ℕ) → Bool
is_among locale steps = list_any (λ step. is_same locale step) steps

-- a locale is among the kept ones
abbrev pub is_inside : KeptLocales → List ℕ → Bool
is_inside (Fronts longest) locale = is_same locale (take (length locale) longest.now) || is_same locale (codes "root")
is_inside (These steps) locale = is_among locale (steps_view steps.now)
is_inside All locale = true

-- a key of a document is that of the part or of the parents
abbrev pub is_part : Part → List ℕ → Bool
is_part part key = bytes_eq key (part_name part) || bytes_eq key (codes "parents")

abbrev pub keeps_rules : RulesSieve → List ℕ → Portion RulesSieve
keeps_rules (Document part locales) key = if is_part part key then kept.Members (Keys locales) else kept.Nothing
keeps_rules (Keys locales) key = if is_inside locales key then kept.Whole else kept.Nothing
keeps_rules Parents key = if bytes_eq key (codes "parents") then kept.Whole else kept.Nothing

-- the part and the parents are held of a text
abbrev pub HoldsPart : Part → HeldText → Type 0
HoldsPart part text = text.names ≡ Some (part_name part ∷ codes "parents" ∷ [])

-- ---- When the chain stays inside

-- the locale after some steps of the chain, none of which has a key, is among the kept ones
abbrev pub IsInsideAt : KeptLocales → Data → Part → List ℕ → ℕ → Type 0
IsInsideAt locales document part locale n =
    (current : List ℕ) → NoneBefore n (key_after document part locale)
    → locale_at (next_of (parent_in document)) locale n ≡ Some current → is_inside locales current ≡ true

-- so are all, up to the first one that has a key
abbrev pub StaysInside : KeptLocales → Data → Part → List ℕ → Type 0
StaysInside locales document part locale = (n : ℕ) → n < most_locales → IsInsideAt locales document part locale n

-- the first key, or why there is none
abbrev pub GivesFirstKey : Data → Part → List ℕ → Result (List ℕ) FallbackError → Type 0
GivesFirstKey document part locale (Ok key) = IsKeyOf document part locale key
GivesFirstKey document part locale (Err reason) = HasNoKey document part locale reason

-- it is found before the chain leaves the kept locales
abbrev pub IsFirstInside : KeptLocales → Data → Part → List ℕ → Result (List ℕ) FallbackError → Type 0
IsFirstInside locales document part locale first = StaysInside locales document part locale × GivesFirstKey document part locale first
