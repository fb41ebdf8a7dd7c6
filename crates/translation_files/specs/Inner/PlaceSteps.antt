-- Not definitions of the subject: maps by text, the places of one locale, and a target of the code.
--     PutsText key value old new      the value stands under the key, and all others as before
--     PutsLines kind key lines old new      the same of a message of one locale
use Rattle.std.specs.Prelude.{◌≡◌, ℕ, ◌&&◌, if◌then◌else◌, bytes_eq, List, String, Option, Some, None}
use Rattle.std.specs.BTreeMap.{BTreeMap, get_by_text}
use Rattle.std.specs.declared.alloc.Global.{Global}
use Rattle.translation_files.specs.FilePlaces.{Target, is_kind, places_of_kind, target}
use Rattle.translation_files.specs.declared.file_messages.Target as targets
use Rattle.translation_files.specs.declared.lines.MessageKind.{MessageKind}
use Rattle.translation_files.specs.declared.lines.MessageLines.{MessageLines}
use Rattle.translation_files.specs.declared.places.LocalePlaces.{LocalePlaces}
use Rattle.translation_files.specs.declared.places.Places.{Places}

abbrev pub PutsText : {X : Type 0} → List ℕ → X → BTreeMap (String Global) X → BTreeMap (String Global) X → Type 0
PutsText key value old new =
    (other : List ℕ) → get_by_text new other ≡ (if bytes_eq key other then Some value else get_by_text old other)

abbrev pub KeepsTexts : {X : Type 0} → BTreeMap (String Global) X → BTreeMap (String Global) X → Type 0
KeepsTexts old new = (key : List ℕ) → get_by_text new key ≡ get_by_text old key

-- ---- The places of one locale

-- where a message of the locale stands
abbrev pub lines_at : LocalePlaces → MessageKind → List ℕ → Option MessageLines
lines_at places kind key = get_by_text (places_of_kind kind places) key

abbrev pub HasNoLines : LocalePlaces → Type 0
HasNoLines places = (kind : MessageKind) (key : List ℕ) → lines_at places kind key ≡ None

abbrev pub PutsLines : MessageKind → List ℕ → MessageLines → LocalePlaces → LocalePlaces → Type 0
PutsLines kind key lines old new =
    (k : MessageKind) (m : List ℕ)
    → lines_at new k m ≡ (if is_kind kind k && bytes_eq key m then Some lines else lines_at old k m)

abbrev pub KeepsLines : LocalePlaces → LocalePlaces → Type 0
KeepsLines old new = (kind : MessageKind) (key : List ℕ) → lines_at new kind key ≡ lines_at old kind key

-- ---- Targets

abbrev pub target_view : targets.Target → Target
target_view t = target t.locale.now t.kind t.key.now t.form
