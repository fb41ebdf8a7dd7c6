-- The patterns of a document of messages, which are an object of texts by key, and their catalogue.
--     IsPacked patterns bytes      the catalogue of the patterns
--     HasPatternsFault patterns fault      why there is none
use Rattle.std.specs.Prelude.{◌≡◌, ◌≢◌, ◌⊎◌, ℕ, List, [], ◌∷◌, Some, None, slice_get}
use Rattle.message_catalog.specs.MessagePacking.{HasCatalogFault, IsFirstFaulty, KeyedText, PacksTo}
use Rattle.catalog_commands.specs.declared.fault.PatternsFault.{PatternsFault}
use Rattle.catalog_commands.specs.declared.fault.PatternsFault.TheVariants as fault
use Rattle.serde_json.specs.Data.{Data, Members, no_members, member}
use Rattle.serde_json.specs.Find.{as_object, as_str}

-- the texts under the keys, one by one, in the order of the members
abbrev pub AreTextsOf : Members → List KeyedText → Type 0
AreTextsOf no_members [] = Unit {0}
AreTextsOf (member key value members) (keyed ∷ texts) = (keyed.key ≡ key) × (as_str value ≡ Some keyed.text) × AreTextsOf members texts
AreTextsOf _ _ = ⊥

-- this is the first key whose value isn't a text
abbrev pub IsFirstNoText : Members → List ℕ → Type 0
IsFirstNoText no_members key = ⊥
IsFirstNoText (member first value members) key =
    ((as_str value ≡ None) × (first ≡ key)) ⊎ ((as_str value ≢ None) × IsFirstNoText members key)

-- the catalogue of the texts
abbrev pub IsPacked : Data → List ℕ → Type 0
IsPacked patterns bytes =
    (members : Members) × (texts : List KeyedText) × (as_object patterns ≡ Some members) × AreTextsOf members texts × PacksTo texts bytes

-- the texts of the members have a fault
abbrev pub HasTextsFault : Members → (List KeyedText → Type 0) → Type 0
HasTextsFault members Fault = (texts : List KeyedText) × AreTextsOf members texts × Fault texts

-- the text under a key is the first with a fault
abbrev pub IsFirstUnder : List ℕ → (List KeyedText → ℕ → Type 0) → List KeyedText → Type 0
IsFirstUnder key IsFirst texts = (index : ℕ) × (keyed : KeyedText) × IsFirst texts index × (slice_get texts index ≡ Some keyed) × (keyed.key ≡ key)

-- why the members have no catalogue
abbrev pub HasMembersFault : Members → PatternsFault → Type 0
HasMembersFault _ fault.NoObject = ⊥
HasMembersFault members (fault.NoText key) = IsFirstNoText members key.now
HasMembersFault members (fault.Message key reason) = HasTextsFault members (IsFirstUnder key.now (λ texts index. IsFirstFaulty texts index reason))
HasMembersFault members (fault.Catalog reason) = HasTextsFault members (λ texts. HasCatalogFault texts reason)
HasMembersFault _ fault.Memory = ⊥

abbrev pub HasPatternsFault : Data → PatternsFault → Type 0
HasPatternsFault patterns fault.NoObject = as_object patterns ≡ None
HasPatternsFault patterns reason = (members : Members) × (as_object patterns ≡ Some members) × HasMembersFault members reason

-- the patterns have this fault, or memory ran out
abbrev pub TellsPatternsFault : Data → PatternsFault → Type 0
TellsPatternsFault patterns reason = (reason ≡ fault.Memory) ⊎ HasPatternsFault patterns reason
