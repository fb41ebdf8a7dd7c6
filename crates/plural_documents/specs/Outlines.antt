-- The outline of a JSON value: a sieve tells by the key of each member of an object whether all of
-- it is kept, nothing, or what a further sieve keeps of it.
--     outline keeps kept value      what is kept of a value, if anything
--     GivesOutline keeps choice bytes result      the outline of the value that bytes write, if
--         they are a JSON text
--     GivesHeldText names bytes result      a text that is held, of an outermost object by names
--     IsOutlineOf keeps choice text part      the outline of what is held of it
use Rattle.std.specs.Prelude.{◌≡◌, ℕ, ◌<◌, List, length, if◌then◌else◌, Option, Some, None, Result, Ok, Err}
pub use Rattle.document_tokens.specs.TextTokens.{is_among_names}
use Rattle.plural_documents.specs.Inputs.{json_of}
use Rattle.document_tokens.specs.declared.error.JsonTextError.{JsonTextError}
use Rattle.document_tokens.specs.declared.error.JsonTextError.TheVariants as fault
use Rattle.plural_documents.specs.declared.outline.Portion.{Portion}
use Rattle.plural_documents.specs.declared.outline.Portion.TheVariants as kept
use Rattle.serde_json.specs.Data.{Data, null, boolean, number, string, array, object, Members, no_members, member}
use Rattle.serde_json.specs.View.{view}
use Rattle.serde_json.specs.declared.Value.{Value}

-- a member of which this is kept, before others
abbrev pub with_member : List ℕ → Option Data → Members → Members
with_member key None members = members
with_member key (Some value) members = member key value members

abbrev mutual
  -- by a choice of an object what is kept of its members, and of any other value all of it
  pub outline : {C : Type 0} → (C → List ℕ → Portion C) → Portion C → Data → Option Data
  outline keeps kept.Whole value = Some value
  outline keeps kept.Nothing value = None
  outline keeps (kept.Members choice) null = Some null
  outline keeps (kept.Members choice) (boolean truth) = Some (boolean truth)
  outline keeps (kept.Members choice) (number n) = Some (number n)
  outline keeps (kept.Members choice) (string text) = Some (string text)
  outline keeps (kept.Members choice) (array items) = Some (array items)
  outline keeps (kept.Members choice) (object members) = Some (object (outline_members keeps choice members))

  pub outline_members : {C : Type 0} → (C → List ℕ → Portion C) → C → Members → Members
  outline_members keeps choice no_members = no_members
  outline_members keeps choice (member key value members) =
      with_member key (outline keeps (keeps choice key) value) (outline_members keeps choice members)

-- the outline of the value that the bytes write; or there is none, or memory ran out, which needs a
-- byte
abbrev pub GivesOutline : {C : Type 0} → (C → List ℕ → Portion C) → C → List ℕ → Result Value JsonTextError → Type 0
GivesOutline keeps choice bytes (Ok value) =
    (whole : Data) × (json_of bytes ≡ Some whole) × (outline keeps (kept.Members choice) whole ≡ Some (view value))
GivesOutline keeps choice bytes (Err fault.Json) = json_of bytes ≡ None
GivesOutline keeps choice bytes (Err fault.Memory) = 0 < length bytes

-- ---- A text that is read once

-- the bytes of a text, and the names of the outermost members that are held of it, unless all are
pub record HeldText : Type 0 where
  pub bytes : List ℕ
  pub names : Option (List (List ℕ))

-- the members with these names
abbrev pub named : List (List ℕ) → List ℕ → Portion (List (List ℕ))
named names key = if is_among_names names key then kept.Whole else kept.Nothing

-- of an object the members with these names, if names are given, and of any other value all of it
abbrev pub part_by_names : Option (List (List ℕ)) → Data → Option Data
part_by_names None whole = Some whole
part_by_names (Some names) whole = outline named (kept.Members names) whole

-- this is held of the value that the text writes
abbrev pub IsHeld : HeldText → Data → Type 0
IsHeld text held = (whole : Data) × (json_of text.bytes ≡ Some whole) × (part_by_names text.names whole ≡ Some held)

-- the text of the bytes, which write a value; or they write none, or memory ran out, which needs a
-- byte
abbrev pub GivesHeldText : Option (List (List ℕ)) → List ℕ → Result HeldText JsonTextError → Type 0
GivesHeldText names bytes (Ok text) = (text ≡ record { bytes = bytes; names = names }) × ((whole : Data) × (json_of bytes ≡ Some whole))
GivesHeldText names bytes (Err fault.Json) = json_of bytes ≡ None
GivesHeldText names bytes (Err fault.Memory) = 0 < length bytes

-- what a sieve keeps of what is held
abbrev pub IsOutlineOf : {C : Type 0} → (C → List ℕ → Portion C) → C → HeldText → Data → Type 0
IsOutlineOf keeps choice text part = (held : Data) × IsHeld text held × (outline keeps (kept.Members choice) held ≡ Some part)
