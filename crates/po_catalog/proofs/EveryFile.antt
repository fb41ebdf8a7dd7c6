-- Every file says a catalog: what follows a front is shorter.
use Rattle.std.proofs.Common.{◌≡◌, ◌≤◌, ◌⊎◌, ◌+◌, ◌*◌, ◌==◌, ℕ, zero, suc, nat_lt, List, [], ◌∷◌, Bool, true, false, Option, Some, None, Result, Ok, Err, length, codes, refl, arith, inl, inr, if◌then◌else◌}
use Rattle.std.specs.Str.{bytes_eq}
use Rattle.po_catalog.specs.declared.fault.Cause.{Cause}
use Rattle.po_catalog.specs.declared.fault.Cause.TheVariants.{BadIndex, UnclosedText, UnknownWord, StrayText}
use Rattle.po_catalog.specs.declared.front.Keyword.{Keyword}
use Rattle.po_catalog.specs.declared.front.Keyword.TheVariants.{Domain, Context, Id, PluralId, Form}
use Rattle.po_catalog.specs.Drafts.{PoDraft, PoField, all_ended, behind_empty, behind_line, comment_checked, empty_draft, ended_at_comment, flags_read, keyword_read, line_checked, passed_over, unknown_read, with_field}
use Rattle.po_catalog.specs.FileLines.{lines_of, numbered}
use Rattle.po_catalog.specs.Fronts.{PoFront, Nothing, Word, Mark, Unknown, behind_digit, closed_index, index_digit_of, first_digit, form_at, form_front, form_with_index, front_at, front_of, index_front, catalog_keyword_front, second_digit, word_front}
use Rattle.po_catalog.specs.LineKinds.{PoLine, Empty, Comment, Fields, line_of}
use Rattle.po_catalog.specs.PoBytes.{behind_catalog_run, is_of_keyword, is_white, catalog_run_front}
use Rattle.po_catalog.specs.Quoted as quoted
use Rattle.po_catalog.specs.Quoted.{Breaks, Said, End, Byte, Says, byte_of_letter, code_front, digit_value, escape_front, hexadecimal, hexadecimal_code, letter_or_code, octal, of_byte, said_code, said_front}
use Rattle.po_catalog.specs.ReadCatalogs.{EveryFileIsACatalog, ReadsFields, ReadsLine, ReadsLines, behind_mark, catalog_at, longer, next_line, no_line}
use Rattle.po_catalog.specs.ReadCatalogs.{ends, unknown, fits, stray_keyword, goes_on, breaks, stray_text, empty, comment, fields}

behind_run_within : (is_such : ℕ → Bool) (s : List ℕ) → length (behind_catalog_run is_such s) ≤ length s
behind_run_within is_such [] = omega arith
behind_run_within is_such (b ∷ s) =
    let more : length (behind_catalog_run is_such s) ≤ length s = behind_run_within is_such s in
    elim (is_such b) as (λ (v : Bool). length (if v then behind_catalog_run is_such s else b ∷ s) ≤ length (b ∷ s)) [
      | true ↦ omega (arith, more)
      | false ↦ omega arith
    ]

-- ---- a code, an index, and what follows them

abbrev CodeWithin : Option (ℕ × List ℕ) → ℕ → Type 0
CodeWithin None n = Unit {0}
CodeWithin (Some code) n = length code.1 ≤ n

code_weaker : (c : Option (ℕ × List ℕ)) (m n : ℕ) → m ≤ n → CodeWithin c m → CodeWithin c n
code_weaker None m n le h = tt
code_weaker (Some code) m n le h = omega (arith, le, h)

hexadecimal_within : (k : ℕ) (s : List ℕ) → length (hexadecimal k s).1 ≤ length s
hexadecimal_within k [] = omega arith
hexadecimal_within k (b ∷ s) =
    let more : length (hexadecimal (k * 16 + digit_value b) s).1 ≤ length s = hexadecimal_within (k * 16 + digit_value b) s in
    elim (nat_lt (digit_value b) 16) as (λ (v : Bool). length
    (if v then hexadecimal (k * 16 + digit_value b) s else (k, b ∷ s)).1 ≤ length (b ∷ s)) [
      | true ↦ omega (arith, more)
      | false ↦ omega arith
    ]

octal_within : (more k : ℕ) (s : List ℕ) → length (octal more k s).1 ≤ length s
octal_within zero k s = omega arith
octal_within (suc more) k [] = omega arith
octal_within (suc more) k (b ∷ s) =
    let rest : length (octal more (k * 8 + digit_value b) s).1 ≤ length s = octal_within more (k * 8 + digit_value b) s in
    elim (nat_lt (digit_value b) 8) as (λ (v : Bool). length (if v then octal more (k * 8 + digit_value b) s else (k, b ∷ s)).1 ≤ length
    (b ∷ s)) [
      | true ↦ omega (arith, rest)
      | false ↦ omega arith
    ]

of_byte_within : (c : ℕ × List ℕ) (n : ℕ) → length c.1 ≤ n → CodeWithin (of_byte c) n
of_byte_within c n le =
    elim (nat_lt c.0 256) as (λ (v : Bool). CodeWithin (if v then Some c else None) n) [ true ↦ le | false ↦ tt ]

hexadecimal_code_within : (s : List ℕ) → CodeWithin (hexadecimal_code s) (length s)
hexadecimal_code_within [] = tt
hexadecimal_code_within (b ∷ s) =
    let more : length (hexadecimal (digit_value b) s).1 ≤ length s = hexadecimal_within (digit_value b) s in
    elim (nat_lt (digit_value b) 16) as (λ (v : Bool). CodeWithin (if v then of_byte (hexadecimal (digit_value b) s) else None)
    (length (b ∷ s))) [
      | true ↦ of_byte_within (hexadecimal (digit_value b) s) (length (b ∷ s)) (omega (arith, more))
      | false ↦ tt
    ]

code_front_within : (b : ℕ) (s : List ℕ) → CodeWithin (code_front b s) (length s)
code_front_within b s =
    elim (b == 120) as (λ (v : Bool). CodeWithin
    (if v then hexadecimal_code s else (if nat_lt (digit_value b) 8 then of_byte (octal 2 (digit_value b) s) else None)) (length s)) [
      | true ↦ hexadecimal_code_within s
      | false ↦ elim (nat_lt (digit_value b) 8) as (λ (v : Bool). CodeWithin (if v then of_byte (octal 2 (digit_value b) s) else None)
          (length s)) [
            | true ↦ of_byte_within (octal 2 (digit_value b) s) (length s) (octal_within 2 (digit_value b) s)
            | false ↦ tt
          ]
    ]

behind_digit_within : (first : ℕ) (s : List ℕ) → length (behind_digit first s).1 ≤ length s
behind_digit_within first [] = omega arith
behind_digit_within first (b ∷ s) =
    elim (index_digit_of b) as (λ (o : Option ℕ). length (second_digit first o b s).1 ≤ length (b ∷ s))
    [ None ↦ omega arith | Some second ↦ omega arith ]

index_within : (s : List ℕ) → CodeWithin (index_front s) (length s)
index_within [] = tt
index_within (b ∷ s) =
    elim (index_digit_of b) as (λ (o : Option ℕ). CodeWithin (first_digit o s) (length (b ∷ s))) [
      | None ↦ tt
      | Some first ↦ omega (arith, behind_digit_within first s)
    ]

-- ---- a text, and what follows it

abbrev SaidWithin : Result Said Cause → ℕ → Type 0
SaidWithin (Ok (End rest)) n = length rest ≤ n
SaidWithin (Ok (Byte b rest)) n = length rest ≤ n
SaidWithin (Err cause) n = Unit {0}

said_code_within : (c : Option (ℕ × List ℕ)) (n : ℕ) → CodeWithin c n → SaidWithin (said_code c) n
said_code_within None n h = tt
said_code_within (Some (byte, rest)) n h = h

escape_within : (s : List ℕ) (n : ℕ) → length s ≤ n → SaidWithin (escape_front s) n
escape_within [] n le = tt
escape_within (b ∷ s) n le =
    let less : length s ≤ n = omega (arith, le) in
    elim (byte_of_letter b) as (λ (o : Option ℕ). SaidWithin (said_code (letter_or_code o b s)) n) [
      | None ↦ said_code_within (code_front b s) n (code_weaker (code_front b s) (length s) n less (code_front_within b s))
      | Some byte ↦ less
    ]

said_within : (s : List ℕ) (n : ℕ) → length s ≤ suc n → SaidWithin (said_front s) n
said_within [] n le = tt
said_within (b ∷ s) n le =
    let less : length s ≤ n = omega (arith, le) in
    elim (b == 34) as (λ (v : Bool). SaidWithin (if v then Ok (End s) else (if b == 92 then escape_front s else Ok (Byte b s))) n) [
      | true ↦ less
      | false ↦ elim (b == 92) as (λ (v : Bool). SaidWithin (if v then escape_front s else Ok (Byte b s)) n)
          [ true ↦ escape_within s n less | false ↦ less ]
    ]

-- it is closed, or breaks
abbrev TextEnd : ℕ → List ℕ → Type 0
TextEnd n s =
    ((text : List ℕ) × (after : List ℕ) × Says s (Ok (text, after)) × (length after ≤ n))
    ⊎ ((text : List ℕ) × (cause : Cause) × Breaks s text cause)

said_first : (s after : List ℕ) (b n : ℕ) → said_front s ≡ Ok (Byte b after) → TextEnd n after → TextEnd (suc n) s
said_first s after b n e (inl w) = inl (b ∷ w.0, w.1, quoted.goes s after w.0 w.1 b e w.2, omega (arith, w.3))
said_first s after b n e (inr w) = inr (b ∷ w.0, w.1, quoted.later s after w.0 b w.1 e w.2)

text_at : (s : List ℕ) (n : ℕ) (front : Result Said Cause) → said_front s ≡ front → SaidWithin front n
    → ((t : List ℕ) → length t ≤ n → TextEnd n t) → TextEnd (suc n) s
text_at s n (Ok (End rest)) e h shorter = inl ([], rest, quoted.ends s rest e, omega (arith, h))
text_at s n (Ok (Byte b after)) e h shorter = said_first s after b n e (shorter after h)
text_at s n (Err cause) e h shorter = inr ([], cause, quoted.at_once s cause e)

text_end : (n : ℕ) (s : List ℕ) → length s ≤ n → TextEnd n s
text_end zero [] le = inr ([], UnclosedText, quoted.at_once [] UnclosedText refl)
text_end zero (b ∷ s) le = absurd (omega (arith, le))
text_end (suc n) s le = text_at s n (said_front s) refl (said_within s n le) (text_end n)

-- ---- a front, and what follows it

abbrev FrontWithin : PoFront → ℕ → Type 0
FrontWithin Nothing n = Unit {0}
FrontWithin (Word keyword rest) n = length rest ≤ n
FrontWithin (Mark rest) n = length rest ≤ n
FrontWithin (Unknown cause) n = Unit {0}

front_weaker : (f : PoFront) (m n : ℕ) → m ≤ n → FrontWithin f m → FrontWithin f n
front_weaker Nothing m n le h = tt
front_weaker (Word keyword rest) m n le h = omega (arith, le, h)
front_weaker (Mark rest) m n le h = omega (arith, le, h)
front_weaker (Unknown cause) m n le h = tt

closed_within : (index : ℕ) (s : List ℕ) → FrontWithin (closed_index index s) (length s)
closed_within index [] = tt
closed_within index (b ∷ s) =
    elim (b == 93) as (λ (v : Bool). FrontWithin (if v then Word (Form (Some index)) s else Unknown BadIndex) (length (b ∷ s)))
    [ true ↦ omega arith | false ↦ tt ]

form_with_index_within : (i : Option (ℕ × List ℕ)) (n : ℕ) → CodeWithin i n → FrontWithin (form_with_index i) n
form_with_index_within None n h = tt
form_with_index_within (Some (index, s)) n h =
    front_weaker (closed_index index (behind_catalog_run is_white s)) (length (behind_catalog_run is_white s)) n
    (omega (arith, h, behind_run_within is_white s))
    (closed_within index (behind_catalog_run is_white s))

form_at_within : (t rest : List ℕ) → length t ≤ length rest → FrontWithin (form_at t rest) (length rest)
form_at_within [] rest le = omega arith
form_at_within (b ∷ s) rest le =
    let inner = behind_catalog_run is_white s in
    elim (b == 91) as (λ (v : Bool). FrontWithin (if v then form_with_index (index_front inner) else Word (Form None) rest) (length rest)) [
      | true ↦ form_with_index_within (index_front inner) (length rest)
          (code_weaker (index_front inner) (length inner) (length rest) (omega (arith, le, behind_run_within is_white s))
          (index_within inner))
      | false ↦ omega arith
    ]

domain_within : (word rest : List ℕ)
    → FrontWithin (if bytes_eq word (codes "domain") then Word Domain rest else Unknown UnknownWord) (length rest)
domain_within word rest =
    elim (bytes_eq word (codes "domain")) as (λ (v : Bool). FrontWithin (if v then Word Domain rest else Unknown UnknownWord)
    (length rest)) [ true ↦ omega arith | false ↦ tt ]

context_within : (word rest : List ℕ)
    → FrontWithin (if bytes_eq word (codes "msgctxt") then Word Context rest
    else (if bytes_eq word (codes "domain") then Word Domain rest else Unknown UnknownWord)) (length rest)
context_within word rest =
    elim (bytes_eq word (codes "msgctxt")) as (λ (v : Bool). FrontWithin
    (if v then Word Context rest else (if bytes_eq word (codes "domain") then Word Domain rest else Unknown UnknownWord))
    (length rest)) [ true ↦ omega arith | false ↦ domain_within word rest ]

plural_within : (word rest : List ℕ)
    → FrontWithin (if bytes_eq word (codes "msgid_plural") then Word PluralId rest
    else (if bytes_eq word (codes "msgctxt") then Word Context rest
    else (if bytes_eq word (codes "domain") then Word Domain rest else Unknown UnknownWord))) (length rest)
plural_within word rest =
    elim (bytes_eq word (codes "msgid_plural")) as (λ (v : Bool). FrontWithin
    (if v then Word PluralId rest
    else (if bytes_eq word (codes "msgctxt") then Word Context rest
    else (if bytes_eq word (codes "domain") then Word Domain rest else Unknown UnknownWord))) (length rest))
    [ true ↦ omega arith | false ↦ context_within word rest ]

form_within : (word rest : List ℕ)
    → FrontWithin (if bytes_eq word (codes "msgstr") then form_front rest
    else (if bytes_eq word (codes "msgid_plural") then Word PluralId rest
    else (if bytes_eq word (codes "msgctxt") then Word Context rest
    else (if bytes_eq word (codes "domain") then Word Domain rest else Unknown UnknownWord)))) (length rest)
form_within word rest =
    elim (bytes_eq word (codes "msgstr")) as (λ (v : Bool). FrontWithin
    (if v then form_front rest
    else (if bytes_eq word (codes "msgid_plural") then Word PluralId rest
    else (if bytes_eq word (codes "msgctxt") then Word Context rest
    else (if bytes_eq word (codes "domain") then Word Domain rest else Unknown UnknownWord)))) (length rest)) [
      | true ↦ form_at_within (behind_catalog_run is_white rest) rest
          (behind_run_within is_white rest)
      | false ↦ plural_within word rest
    ]

keyword_within : (word rest : List ℕ)
    → FrontWithin (if bytes_eq word (codes "msgid") then Word Id rest
    else (if bytes_eq word (codes "msgstr") then form_front rest
    else (if bytes_eq word (codes "msgid_plural") then Word PluralId rest
    else (if bytes_eq word (codes "msgctxt") then Word Context rest
    else (if bytes_eq word (codes "domain") then Word Domain rest else Unknown UnknownWord))))) (length rest)
keyword_within word rest =
    elim (bytes_eq word (codes "msgid")) as (λ (v : Bool). FrontWithin
    (if v then Word Id rest else
    (if bytes_eq word (codes "msgstr") then form_front rest
    else (if bytes_eq word (codes "msgid_plural") then Word PluralId rest
    else (if bytes_eq word (codes "msgctxt") then Word Context rest
    else (if bytes_eq word (codes "domain") then Word Domain rest else Unknown UnknownWord))))) (length rest))
    [ true ↦ omega arith | false ↦ form_within word rest ]

-- a word has a byte, or is none
word_within : (b : ℕ) (s : List ℕ) → FrontWithin (word_front (b ∷ s)) (length s)
unfolding word_front
word_within b s =
    elim (is_of_keyword b) as (λ (v : Bool). FrontWithin
    (catalog_keyword_front (if v then b ∷ catalog_run_front is_of_keyword s else []) (if v then behind_catalog_run is_of_keyword s else b ∷ s)) (length s)) [
      | true ↦ front_weaker (catalog_keyword_front (b ∷ catalog_run_front is_of_keyword s) (behind_catalog_run is_of_keyword s)) (length (behind_catalog_run is_of_keyword s))
          (length s) (behind_run_within is_of_keyword s)
          (keyword_within (b ∷ catalog_run_front is_of_keyword s) (behind_catalog_run is_of_keyword s))
      | false ↦ tt
    ]

front_at_within : (t : List ℕ) (n : ℕ) → length t ≤ suc n → FrontWithin (front_at t) n
front_at_within [] n le = tt
front_at_within (b ∷ t) n le =
    let less : length t ≤ n = omega (arith, le) in
    elim (b == 35) as (λ (v : Bool). FrontWithin (if v then Nothing else (if b == 34 then Mark t else word_front (b ∷ t))) n) [
      | true ↦ tt
      | false ↦ elim (b == 34) as (λ (v : Bool). FrontWithin (if v then Mark t else word_front (b ∷ t)) n) [
        | true ↦ less
        | false ↦ front_weaker (word_front (b ∷ t)) (length t) n less (word_within b t)
      ]
    ]

front_within : (s : List ℕ) (n : ℕ) → length s ≤ suc n → FrontWithin (front_of s) n
unfolding front_of
front_within s n le = front_at_within (behind_catalog_run is_white s) n (omega (arith, le, behind_run_within is_white s))

front_nothing : front_of [] ≡ Nothing
unfolding front_of
front_nothing = refl

-- ---- each line has an end

abbrev FieldsEnd : ℕ → Bool → PoDraft → List ℕ → Type 0
FieldsEnd l o d s = (end : PoDraft × Option Cause) × ReadsFields l o d s end

abbrev Shorter : ℕ → ℕ → Bool → Type 0
Shorter n l o = (d : PoDraft) (s : List ℕ) → length s ≤ n → FieldsEnd l o d s

behind_keyword : (n l : ℕ) (o : Bool) (d next : PoDraft) (s rest : List ℕ) (k : Keyword) (fault : Option Cause)
    → front_of s ≡ Word k rest → length rest ≤ n
    → keyword_read l o k d ≡ (next, fault) → Shorter n l o → FieldsEnd l o d s
behind_keyword n l o d next s rest k None e le is shorter =
    let more : FieldsEnd l o next rest = shorter next rest le in
    (more.0, fits d next s rest k more.0 e is more.1)
behind_keyword n l o d next s rest k (Some cause) e le is shorter = ((next, Some cause), stray_keyword d next s rest k cause e is)

behind_text : (n l : ℕ) (o : Bool) (d : PoDraft) (s rest : List ℕ) (field : PoField) → front_of s ≡ Mark rest → d.field ≡ Some field
    → TextEnd n rest
    → Shorter n l o → FieldsEnd l o d s
behind_text n l o d s rest field e at (inl w) shorter =
    let more : FieldsEnd l o (with_field (longer w.0 field) d) w.1 = shorter (with_field (longer w.0 field) d) w.1 w.3 in
    (more.0, goes_on d s rest w.0 w.1 field more.0 e at w.2 more.1)
behind_text n l o d s rest field e at (inr w) shorter =
    ((with_field (longer w.0 field) d, Some w.1), breaks d s rest w.0 field w.1 e at w.2)

behind_text_mark : (n l : ℕ) (o : Bool) (d : PoDraft) (s rest : List ℕ) (field : Option PoField) → front_of s ≡ Mark rest
    → length rest ≤ n → d.field ≡ field
    → Shorter n l o → FieldsEnd l o d s
behind_text_mark n l o d s rest None e le at shorter = ((with_field passed_over d, Some StrayText), stray_text d s rest e at)
behind_text_mark n l o d s rest (Some field) e le at shorter = behind_text n l o d s rest field e at (text_end n rest le) shorter

at_front : (n l : ℕ) (o : Bool) (d : PoDraft) (s : List ℕ) (f : PoFront) → front_of s ≡ f → FrontWithin f n → Shorter n l o
    → FieldsEnd l o d s
at_front n l o d s Nothing e h shorter = ((d, None), ends d s e)
at_front n l o d s (Word k rest) e h shorter =
    behind_keyword n l o d (keyword_read l o k d).0 s rest k (keyword_read l o k d).1 e h refl shorter
at_front n l o d s (Mark rest) e h shorter = behind_text_mark n l o d s rest d.field e h refl shorter
at_front n l o d s (Unknown cause) e h shorter = ((unknown_read d, Some cause), unknown d s cause e)

fields_end : (n l : ℕ) (o : Bool) (d : PoDraft) (s : List ℕ) → length s ≤ n → FieldsEnd l o d s
fields_end zero l o d [] le = ((d, None), ends d [] front_nothing)
fields_end zero l o d (b ∷ s) le = absurd (omega (arith, le))
fields_end (suc n) l o d s le = at_front n l o d s (front_of s) refl (front_within s n le) (fields_end n l o)

abbrev LineEnd : ℕ → List ℕ → PoDraft → Type 0
LineEnd n line d = (next : PoDraft) × ReadsLine n line d next

line_at_kind : (n : ℕ) (line : List ℕ) (d : PoDraft) (kind : PoLine) → line_of line ≡ kind → LineEnd n line d
line_at_kind n line d Empty e = (behind_empty d, empty e)
line_at_kind n line d (Comment s words) e = (behind_line (comment_checked n s (flags_read words (ended_at_comment d))), comment s words e)
line_at_kind n line d (Fields o s) e =
    let more : FieldsEnd n o d s = fields_end (length s) n o d s (omega arith) in
    (behind_line (line_checked n s more.0.1 more.0.0), fields o s more.0 e more.1)

lines_end : (d : PoDraft) (lines : List (ℕ × List ℕ)) → (end : PoDraft) × ReadsLines d lines end
lines_end d [] = (d, no_line d)
lines_end d ((n, line) ∷ lines) =
    let first : LineEnd n line d = line_at_kind n line d (line_of line) refl in
    let more : (end : PoDraft) × ReadsLines first.0 lines end = lines_end first.0 lines in
    (more.0, next_line d first.0 more.0 n line lines first.1 more.1)

pub every_file : EveryFileIsACatalog
every_file = λ file.
    let read : (end : PoDraft) × ReadsLines empty_draft (numbered 1 (lines_of (behind_mark file))) end =
    lines_end empty_draft (numbered 1 (lines_of (behind_mark file))) in
    (catalog_at (all_ended read.0), record { end = read.0; read = read.1; whole = refl })
