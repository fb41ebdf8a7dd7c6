-- What stands at the front of a line of a catalog: a keyword, a text, nothing more, or nothing known.
use Rattle.std.specs.Prelude.{ℕ, ◌+◌, ◌-◌, ◌*◌, ◌==◌, List, [], ◌∷◌, codes, Option, Some, None, if◌then◌else◌}
use Rattle.std.specs.Str.{bytes_eq}
use Rattle.po_catalog.specs.declared.fault.Cause.{Cause}
use Rattle.po_catalog.specs.declared.fault.Cause.TheVariants.{BadIndex, UnknownWord}
use Rattle.po_catalog.specs.declared.front.Keyword.{Keyword}
use Rattle.po_catalog.specs.declared.front.Keyword.TheVariants.{Domain, Context, Id, PluralId, Form}
use Rattle.po_catalog.specs.PoBytes.{is_of_keyword, is_white, is_within, behind_catalog_run, catalog_run_front}

pub data PoFront : Type 0 where
  -- nothing more, or a comment
  Nothing : PoFront
  -- a keyword, and what follows it
  Word : Keyword → List ℕ → PoFront
  -- the quotation mark before a text, and what follows it
  Mark : List ℕ → PoFront
  Unknown : Cause → PoFront

abbrev pub index_digit_of : ℕ → Option ℕ
index_digit_of b = if is_within 48 57 b then Some (b - 48) else None

-- a digit and the next one, if it is one, and what follows
abbrev pub second_digit : ℕ → Option ℕ → ℕ → List ℕ → ℕ × List ℕ
second_digit first None b s = (first, b ∷ s)
second_digit first (Some second) b s = (first * 10 + second, s)

abbrev pub behind_digit : ℕ → List ℕ → ℕ × List ℕ
behind_digit first [] = (first, [])
behind_digit first (b ∷ s) = second_digit first (index_digit_of b) b s

abbrev pub first_digit : Option ℕ → List ℕ → Option (ℕ × List ℕ)
first_digit None s = None
first_digit (Some first) s = Some (behind_digit first s)

-- the index of one or two digits, and what follows it
abbrev pub index_front : List ℕ → Option (ℕ × List ℕ)
index_front [] = None
index_front (b ∷ s) = first_digit (index_digit_of b) s

abbrev pub closed_index : ℕ → List ℕ → PoFront
closed_index index [] = Unknown BadIndex
closed_index index (b ∷ s) = if b == 93 then Word (Form (Some index)) s else Unknown BadIndex

abbrev pub form_with_index : Option (ℕ × List ℕ) → PoFront
form_with_index None = Unknown BadIndex
form_with_index (Some (index, s)) = closed_index index (behind_catalog_run is_white s)

abbrev pub form_at : List ℕ → List ℕ → PoFront
form_at [] rest = Word (Form None) rest
form_at (b ∷ s) rest = if b == 91 then form_with_index (index_front (behind_catalog_run is_white s)) else Word (Form None) rest

-- `msgstr`, with its index in brackets if it has one, and what follows it
abbrev pub form_front : List ℕ → PoFront
form_front rest = form_at (behind_catalog_run is_white rest) rest

-- a word, and what follows it
abbrev pub catalog_keyword_front : List ℕ → List ℕ → PoFront
catalog_keyword_front word rest =
    if bytes_eq word (codes "msgid") then Word Id rest
    else (if bytes_eq word (codes "msgstr") then form_front rest
    else (if bytes_eq word (codes "msgid_plural") then Word PluralId rest
    else (if bytes_eq word (codes "msgctxt") then Word Context rest
    else (if bytes_eq word (codes "domain") then Word Domain rest
    else Unknown UnknownWord))))

unfoldable pub word_front : List ℕ → PoFront
word_front s = catalog_keyword_front (catalog_run_front is_of_keyword s) (behind_catalog_run is_of_keyword s)

abbrev pub front_at : List ℕ → PoFront
front_at [] = Nothing
front_at (b ∷ s) = if b == 35 then Nothing else (if b == 34 then Mark s else word_front (b ∷ s))

-- behind white space
unfoldable pub front_of : List ℕ → PoFront
front_of s = front_at (behind_catalog_run is_white s)
