-- What stands at the front of a line, without where it lies in memory, and how much of the line follows.
use Rattle.std.specs.Prelude.{ℕ, ◌<◌, ◌≤◌, List, codes, length, Option, Some, None, if◌then◌else◌}
use Rattle.std.specs.Borrow.{Bor}
use Rattle.std.specs.Str.{bytes_eq}
use Rattle.po_catalog.specs.declared.fault.Cause.TheVariants.{UnknownWord}
use Rattle.po_catalog.specs.declared.front.Front.{Front}
use Rattle.po_catalog.specs.declared.front.Front.TheVariants.{End, Keyword, Quote, Bad}
use Rattle.po_catalog.specs.declared.front.Keyword.TheVariants.{Domain, Context, PluralId}
use Rattle.po_catalog.specs.Fronts.{PoFront, Nothing, Word, Mark, Unknown}

abbrev pub line_front_view : Front → PoFront
line_front_view End = Nothing
line_front_view (Keyword keyword rest) = Word keyword rest.now
line_front_view (Quote rest) = Mark rest.now
line_front_view (Bad cause) = Unknown cause

abbrev pub index_view : Option (ℕ × Bor (List ℕ)) → Option (ℕ × List ℕ)
index_view None = None
index_view (Some index) = Some (index.0, index.1.now)

-- one of the rarer words, and what follows it
abbrev pub other_front : List ℕ → List ℕ → PoFront
other_front word rest =
    if bytes_eq word (codes "msgid_plural") then Word PluralId rest
    else (if bytes_eq word (codes "msgctxt") then Word Context rest
    else (if bytes_eq word (codes "domain") then Word Domain rest
    else Unknown UnknownWord))

-- less than so many bytes
abbrev pub IsBelow : Front → ℕ → Type 0
IsBelow End n = Unit {0}
IsBelow (Keyword keyword rest) n = length rest.now < n
IsBelow (Quote rest) n = length rest.now < n
IsBelow (Bad cause) n = Unit {0}

-- less than the line
abbrev pub IsBehindLineFront : Front → List ℕ → Type 0
IsBehindLineFront front line = IsBelow front (length line)

-- no more than the text
abbrev pub IsNotLongerThanText : Front → List ℕ → Type 0
IsNotLongerThanText End text = Unit {0}
IsNotLongerThanText (Keyword keyword rest) text = length rest.now ≤ length text
IsNotLongerThanText (Quote rest) text = length rest.now ≤ length text
IsNotLongerThanText (Bad cause) text = Unit {0}
