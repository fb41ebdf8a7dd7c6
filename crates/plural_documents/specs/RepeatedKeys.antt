-- The keys that stand more than once in an object of a JSON text, of which serde_json keeps the last
-- value. A path has the keys that lead from the outermost object to an object, at most three.
--     AreRepeated keys found      the keys of an object that stand there more than once
--     AreRepeatedInBytes bytes found      those of the objects of the value that bytes write, each with
--         the path of its object
--     GivesRepeated bytes result      those, or why there are none
use Rattle.std.specs.Prelude.{◌≡◌, ◌↔◌, ℕ, ◌≤◌, List, [], ◌∷◌, ◌++◌, length, map, bytes_eq, nat_lt, if◌then◌else◌, Option, Some, None, Result, Ok, Err, Vec, ⊤}
use Rattle.std.specs.Cmp.Lexicographic.{slice_cmp}
use Rattle.std.specs.List.{Contains, count_by}
use Rattle.std.specs.List.Sorted.{IsStrictlySortedBy}
use Rattle.std.specs.Ordering.{nat_cmp}
use Rattle.std.specs.declared.alloc.Global.{Global}
use Rattle.json.specs.Json as json
use Rattle.json.specs.Strict.{keys}
use Rattle.plural_documents.specs.Inputs.{json_of, json_tree}
use Rattle.document_tokens.specs.declared.error.JsonTextError.{JsonTextError}
use Rattle.document_tokens.specs.declared.error.JsonTextError.TheVariants as fault
use Rattle.plural_documents.specs.declared.repeated_key.KeyPath.{KeyPath}
use Rattle.plural_documents.specs.declared.repeated_key.KeyPath.TheVariants as code
use Rattle.plural_documents.specs.declared.repeated_key.RepeatedKey.{RepeatedKey}

-- these are the keys that stand there more than once, in the order of their bytes
abbrev pub AreRepeated : List (List ℕ) → List (List ℕ) → Type 0
AreRepeated all found =
    IsStrictlySortedBy (slice_cmp nat_cmp) found × ((key : List ℕ) → Contains found key ↔ (2 ≤ count_by (bytes_eq key) all))

abbrev pub Path : Type 0
Path = List (List ℕ)

-- the path of the object under a key
abbrev pub path_below : Path → List ℕ → Option Path
path_below path key = if nat_lt (length path) 3 then Some (path ++ key ∷ []) else None

-- a key, behind the path of its object
abbrev pub RepeatedAt : Type 0
RepeatedAt = Path × List ℕ

-- those of a value, if it is an object and has a path: those of the objects below it come first
abbrev mutual
  pub AreRepeatedIn : Option Path → json.Json → List RepeatedAt → Type 0
  AreRepeatedIn None value found = found ≡ []
  AreRepeatedIn (Some path) json.null found = found ≡ []
  AreRepeatedIn (Some path) (json.boolean truth) found = found ≡ []
  AreRepeatedIn (Some path) (json.number text) found = found ≡ []
  AreRepeatedIn (Some path) (json.string text) found = found ≡ []
  AreRepeatedIn (Some path) (json.array items) found = found ≡ []
  AreRepeatedIn (Some path) (json.object members) found =
      (inner : List RepeatedAt) × (own : List (List ℕ)) × AreRepeatedBelow path members inner × AreRepeated (keys members) own
      × (found ≡ inner ++ map (λ key. (path, key)) own)

  -- those of the members' values, in their order
  pub AreRepeatedBelow : Path → json.Members → List RepeatedAt → Type 0
  AreRepeatedBelow path json.no_members found = found ≡ []
  AreRepeatedBelow path (json.member key value members) found =
      (first rest : List RepeatedAt) × AreRepeatedIn (path_below path key) value first × AreRepeatedBelow path members rest
      × (found ≡ first ++ rest)

-- those of an object with these members
abbrev pub AreRepeatedInObject : Path → json.Members → List RepeatedAt → Type 0
AreRepeatedInObject path members = AreRepeatedIn (Some path) (json.object members)

abbrev pub AreRepeatedInBytes : List ℕ → List RepeatedAt → Type 0
AreRepeatedInBytes bytes found = (value : json.Json) × (json_tree bytes ≡ Some value) × AreRepeatedIn (Some []) value found

-- ---- Of the code

abbrev pub path_view : KeyPath → Path
path_view code.Outermost = []
path_view (code.One first) = first.now ∷ []
path_view (code.Two first second) = first.now ∷ second.now ∷ []
path_view (code.Three first second third) = first.now ∷ second.now ∷ third.now ∷ []

abbrev pub repeated_view : RepeatedKey → RepeatedAt
repeated_view repeated = (path_view repeated.path, repeated.key.now)

-- those of the value that the bytes write; or they write none, or memory ran out
abbrev pub GivesRepeated : List ℕ → Result (Vec RepeatedKey Global) JsonTextError → Type 0
GivesRepeated bytes (Ok found) = AreRepeatedInBytes bytes (map repeated_view found.items)
GivesRepeated bytes (Err fault.Json) = json_of bytes ≡ None
GivesRepeated bytes (Err fault.Memory) = ⊤
