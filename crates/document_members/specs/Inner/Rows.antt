-- Not a definition of the subject: rows of parents by the folded names of their locales.
use Rattle.std.specs.Prelude.{◌≡◌, ◌<◌, ℕ, List, length, Option, None, option_map, Vec, Some}
use Rattle.std.specs.BTreeMap.{BTreeMap, get_by}
use Rattle.std.specs.Cmp.Lexicographic.{slice_cmp}
use Rattle.std.specs.declared.alloc.Global.{Global}
use Rattle.std.specs.Option.{option_copied}
use Rattle.std.specs.Ordering.{nat_cmp}
use Rattle.document_members.specs.declared.parent_rows.Row.{Row}
use Rattle.plural_fallback.specs.FirstKeys.{locale_at}
use Rattle.document_members.specs.declared.chains.Stop.{Stop}

-- the parent of a row
abbrev pub row_text : Row → Option (List ℕ)
row_text row = option_copied row.parent

-- a locale's name and its parent
abbrev pub Seen : Type 0
Seen = List ℕ × Option (List ℕ)

abbrev pub row_seen : Row → Seen
row_seen row = (row.name.now, row_text row)

-- the row under a name, if there is one
abbrev pub row_at : BTreeMap (Vec ℕ Global) Row → List ℕ → Option Seen
row_at rows name = option_map row_seen (get_by (λ key. slice_cmp nat_cmp name key.items) rows)

-- no longer name has a row
abbrev pub AreUpTo : ℕ → (List ℕ → Option Seen) → Type 0
AreUpTo most rows = (name : List ℕ) → most < length name → rows name ≡ None

-- ---- the locales on the way of a chain

-- the locale after some steps of a chain
abbrev pub IsStop : (List ℕ → Option (List ℕ)) → List ℕ → Stop → Type 0
IsStop next locale stop = locale_at next locale stop.steps ≡ Some stop.locale.now
