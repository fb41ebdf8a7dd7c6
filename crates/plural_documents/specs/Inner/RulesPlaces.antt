-- Not a definition of the subject: what is right in a document of rules, by the places of its values.
use Rattle.std.specs.Prelude.{◌≡◌, ⊤, ℕ, List, ◌++◌, codes, Bool, true, false, ◌||◌, bytes_eq, if◌then◌else◌, is_some, Option, Some, None, Ok}
use Rattle.plural_base.specs.Categories.{name_of}
use Rattle.plural_base.specs.DocumentJson.{Document as Maps, document_for, document_of_json}
use Rattle.plural_base.specs.Ranges.{range_named}
use Rattle.plural_base.specs.declared.category.PluralCategory.{PluralCategory}
use Rattle.document_tokens.specs.HeldTokens.{Held, held_members, held_tokens}
use Rattle.plural_documents.specs.Outlines.{HeldText, IsHeld}
use Rattle.plural_documents.specs.declared.locale_provider.LocaleSieve.{LocaleSieve}
use Rattle.plural_documents.specs.declared.locale_provider.LocaleSieve.TheVariants as sieve
use Rattle.plural_documents.specs.declared.outline.Portion.{Portion}
use Rattle.plural_documents.specs.declared.outline.Portion.TheVariants as kept
use Rattle.plural_documents.specs.declared.rules_place.RulesPlace.{RulesPlace}
use Rattle.plural_documents.specs.declared.rules_place.RulesPlace.TheVariants.{Document, LocalesRules, Rules, Rule, LocalesRanges, Ranges, Categories, Category, Nowhere}
use Rattle.json.specs.Json as json
use Rattle.plural_runtime.specs.PackedRelations.{PackedRelation}
use Rattle.plural_runtime.specs.RuleOfText.{rule_of_text}
use Rattle.serde_json.specs.Data.{Data, null, boolean, number, string, array, object, Members, no_members, member}
use Rattle.serde_json.specs.Find.{is_float as is_float_number}
use Rattle.serde_json.specs.Read.{of_json, of_members}

-- ---- Floats

-- the token is a float
abbrev pub is_float : Held → Bool
is_float Held.begin_object = false
is_float Held.end_object = false
is_float Held.begin_array = false
is_float Held.end_array = false
is_float (Held.key name) = false
is_float (Held.string text) = false
is_float (Held.number None) = false
is_float (Held.number (Some n)) = is_float_number n
is_float (Held.boolean truth) = false
is_float Held.null = false

-- ---- Places

abbrev pub is_rules_map : List ℕ → Bool
is_rules_map key = bytes_eq key (codes "cardinal") || bytes_eq key (codes "ordinal")

abbrev pub is_rule_name : List ℕ → Bool
is_rule_name key =
    bytes_eq key (codes "zero") || (bytes_eq key (codes "one") || (bytes_eq key (codes "two") || (bytes_eq key (codes "few")
    || bytes_eq key (codes "many"))))

-- the place of the member with a key, if it is read
abbrev pub place_below : RulesPlace → List ℕ → Option RulesPlace
place_below Document key =
    if is_rules_map key then Some LocalesRules else (if bytes_eq key (codes "ranges") then Some LocalesRanges else None)
place_below LocalesRules key = Some Rules
place_below Rules key = if is_rule_name key then Some Rule else None
place_below Rule key = None
place_below LocalesRanges key = Some Ranges
place_below Ranges key = if bytes_eq key (codes "ranges") then Some Categories else None
place_below Categories key = if is_some (range_named key) then Some Category else Some Nowhere
place_below Category key = None
place_below Nowhere key = None

abbrev pub allows_null : RulesPlace → Bool
allows_null Document = false
allows_null LocalesRules = true
allows_null Rules = false
allows_null Rule = true
allows_null LocalesRanges = true
allows_null Ranges = false
allows_null Categories = false
allows_null Category = false
allows_null Nowhere = false

-- an object may stand there, of which a member is read, or none
abbrev pub allows_object : RulesPlace → Bool → Bool
allows_object Document is_any_read = true
allows_object LocalesRules is_any_read = true
allows_object Rules is_any_read = true
allows_object Rule is_any_read = false
allows_object LocalesRanges is_any_read = true
allows_object Ranges is_any_read = is_any_read
allows_object Categories is_any_read = true
allows_object Category is_any_read = false
allows_object Nowhere is_any_read = false

-- ---- What is right there

-- the text gives a rule
abbrev pub TextGivesRule : List ℕ → Type 0
TextGivesRule text = (rule : List PackedRelation) × (rule_of_text text ≡ Ok rule)

abbrev pub IsRightText : RulesPlace → List ℕ → Type 0
IsRightText Document text = ⊥
IsRightText LocalesRules text = ⊥
IsRightText Rules text = ⊥
IsRightText Rule text = TextGivesRule text
IsRightText LocalesRanges text = ⊥
IsRightText Ranges text = ⊥
IsRightText Categories text = ⊥
IsRightText Category text = (category : PluralCategory) × (text ≡ name_of category)
IsRightText Nowhere text = ⊥

abbrev pub is_any_read : RulesPlace → Members → Bool
is_any_read place no_members = false
is_any_read place (member key value members) = is_some (place_below place key) || is_any_read place members

abbrev mutual
  pub IsRight : RulesPlace → Data → Type 0
  IsRight place null = allows_null place ≡ true
  IsRight place (boolean truth) = ⊥
  IsRight place (number n) = ⊥
  IsRight place (string text) = IsRightText place text
  IsRight place (array items) = ⊥
  IsRight place (object members) = (allows_object place (is_any_read place members) ≡ true) × AreRight place members

  pub AreRight : RulesPlace → Members → Type 0
  AreRight place no_members = ⊤
  AreRight place (member key value members) =
      ((inner : RulesPlace) → place_below place key ≡ Some inner → IsRight inner value) × AreRight place members

-- of a value that is read
abbrev pub IsRightBelow : Option RulesPlace → Data → Type 0
IsRightBelow place value = (inner : RulesPlace) → place ≡ Some inner → IsRight inner value

-- the value that these tokens begin with is right, if it is read
abbrev pub IsRightPart : Option RulesPlace → List Held → List Held → Type 0
IsRightPart place old new =
    (value : json.Json) (rest : List Held) (whole : Data) → old ≡ held_tokens value ++ rest → of_json value ≡ Some whole
    → (new ≡ rest) × IsRightBelow place whole

-- so are the members up to the end of the object
abbrev pub AreRightParts : RulesPlace → List Held → List Held → Type 0
AreRightParts place old new =
    (members : json.Members) (rest : List Held) (whole : Members) → old ≡ held_members members ++ rest
    → of_members members no_members ≡ Some whole → (new ≡ rest) × IsRight place (object whole)

-- ---- What is made of it

-- the document that is held has no fault
abbrev pub IsFaultless : HeldText → Type 0
IsFaultless text = (held : Data) → IsHeld text held → (maps : Maps) × (document_of_json held ≡ Ok maps)

abbrev pub is_map : List ℕ → Bool
is_map key = is_rules_map key || bytes_eq key (codes "ranges")

-- of a document without a fault what is of a locale
abbrev pub keeps : LocaleSieve → List ℕ → Portion LocaleSieve
keeps (sieve.Document locale) key = if is_map key then kept.Members (sieve.Map locale) else kept.Nothing
keeps (sieve.Map locale) key = if bytes_eq locale.now key then kept.Whole else kept.Nothing
keeps sieve.All key = kept.Whole

-- a value has for the locale what is held has
abbrev pub ServesLocale : List ℕ → HeldText → Data → Type 0
ServesLocale locale text value = (held : Data) → IsHeld text held → document_for locale value ≡ document_for locale held
