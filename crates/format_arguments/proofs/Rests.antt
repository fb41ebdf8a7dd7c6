-- What follows the piece_front of a text is the end of the text.
use Rattle.std.proofs.Common.{◌≡◌, ◌==◌, ◌&&◌, ◌+◌, ◌-◌, ◌∙◌, ℕ, List, [], ◌∷◌, ◌++◌, Bool, true, false, not, length, take, drop, Option, Some, None, codes, refl, sym, ap, append_assoc, if◌then◌else◌}
use Rattle.std.proofs.lemmas.List.{take-append-drop}
use Rattle.format_arguments.specs.declared.argument.Kind.{Kind}
use Rattle.format_arguments.specs.declared.bytes.Class.{Class}
use Rattle.format_arguments.specs.declared.bytes.Class.TheVariants.{Digit, Flag, Size, Field, Macro, Name, Barred, Unquoted}
use Rattle.format_arguments.specs.declared.format.Format.{Format}
use Rattle.format_arguments.specs.declared.format.Format.TheVariants.{C, ObjectiveC, Python, JavaScript, Boost, Qt, QtPlural, Kde, PythonBrace, PerlBrace, Java}
use Rattle.format_arguments.specs.DirectiveTables.{is_one_of, family_of, has_stars, has_macros, silent_conversions, kind_of, c_kind}
use Rattle.format_arguments.specs.DirectiveBytes.{run_front, behind_directive_run, is_without_bytes, begins_with, behind_first_byte, after_directive_word, place_of_digits}
use Rattle.format_arguments.specs.Directives.{Which, Next, At, Named, PieceFront, End, Takes, Broken, piece_front, at_place, place_front, closed_name, bracketed_name_front, which_front, star_taken, width_front, precision_front, widths_front, converts, macro_end, macro_letter, conversion_front, size_at, argument_size_of, flagged_front, printf_front, takes, takes_place, barred_end, boost_front, behind_letter, number_front, is_the_number, numbered_front, behind_closing, has_quotes, fits_field, begins_style, field_which, no_field, styled_field, field_end, field_front, brace_front, directive_front, opening_in, java_quoted_front, closing_front}
use Rattle.format_arguments.proofs.Runs.{run_front-whole}

-- the text ends in this rest
abbrev pub EndsIn : List ℕ → List ℕ → Type 0
EndsIn s rest = (bytes : List ℕ) × (s ≡ bytes ++ rest)

whole : (s : List ℕ) → EndsIn s s
whole s = ([], refl)

longer : (b : ℕ) (s rest : List ℕ) → EndsIn s rest → EndsIn (b ∷ s) rest
longer b s rest h = (b ∷ h.0, ap (λ (t : List ℕ). b ∷ t) h.1)

through : (s t rest : List ℕ) → EndsIn s t → EndsIn t rest → EndsIn s rest
through s t rest h k = (h.0 ++ k.0, h.1 ∙ (ap (λ (x : List ℕ). h.0 ++ x) k.1 ∙ sym (append_assoc h.0 k.0 rest)))

-- both ways
either : {A : Type 0} (P : A → Type 0) (b : Bool) (x y : A) → P x → P y → P (if b then x else y)
either P true x y p q = p
either P false x y p q = q

run_end : (class : Class) (s : List ℕ) → EndsIn s (behind_directive_run class s)
run_end class s = (run_front class s, sym (run_front-whole class s))

first_end : (s : List ℕ) → EndsIn s (behind_first_byte s)
first_end [] = whole []
first_end (b ∷ s) = longer b s s (whole s)

run_first_end : (class : Class) (s : List ℕ) → EndsIn s (behind_first_byte (behind_directive_run class s))
run_first_end class s = through s (behind_directive_run class s) (behind_first_byte (behind_directive_run class s)) (run_end class s)
    (first_end (behind_directive_run class s))

drop_end : (n : ℕ) (s : List ℕ) → EndsIn s (drop n s)
drop_end n s = (take n s, sym (take-append-drop n s))

-- ---- what follows which argument it is

abbrev pub WhichEndsIn : List ℕ → Option (Which × List ℕ) → Type 0
WhichEndsIn s None = Unit {0}
WhichEndsIn s (Some (which, rest)) = EndsIn s rest

which_later : (s t : List ℕ) (w : Option (Which × List ℕ)) → EndsIn s t → WhichEndsIn t w → WhichEndsIn s w
which_later s t None h k = tt
which_later s t (Some (which, rest)) h k = through s t rest h k

at_place_end : (n : ℕ) (s : List ℕ) → WhichEndsIn s (at_place n s)
at_place_end n s = either (WhichEndsIn s) (n == 0) None (Some (At n, s)) tt (whole s)

place_end : (s : List ℕ) → WhichEndsIn s (place_front s)
unfolding place_front
place_end s =
    let rest = behind_first_byte (behind_directive_run Digit s) in
    let n = place_of_digits (run_front Digit s) in
    either (WhichEndsIn s) (begins_with 36 (behind_directive_run Digit s) && not (is_without_bytes (run_front Digit s))) (at_place n rest)
    (Some (Next, s))
    (which_later s rest (at_place n rest) (run_first_end Digit s) (at_place_end n rest)) (whole s)

closed_name_end : (name s : List ℕ) → WhichEndsIn s (closed_name name s)
closed_name_end name s = either (WhichEndsIn s) (begins_with 41 s) (Some (Named name, behind_first_byte s)) None (first_end s) tt

name_end : (s : List ℕ) → WhichEndsIn s (bracketed_name_front s)
unfolding bracketed_name_front
name_end s =
    let inner = behind_first_byte s in
    let name = run_front Name inner in
    let rest = behind_directive_run Name inner in
    either (WhichEndsIn s) (begins_with 40 s) (closed_name name rest) (Some (Next, s))
    (which_later s rest (closed_name name rest) (through s inner rest (first_end s) (run_end Name inner)) (closed_name_end name rest))
    (whole s)

which_end : (f : Format) (s : List ℕ) → WhichEndsIn s (which_front f s)
which_end Python s = name_end s
which_end C s = place_end s
which_end ObjectiveC s = place_end s
which_end JavaScript s = place_end s
which_end Boost s = place_end s
which_end Qt s = place_end s
which_end QtPlural s = place_end s
which_end Kde s = place_end s
which_end PythonBrace s = place_end s
which_end PerlBrace s = place_end s
which_end Java s = place_end s

-- ---- what follows widths

abbrev WidthEndsIn : List ℕ → ℕ × List ℕ → Type 0
WidthEndsIn s width = EndsIn s width.1

star_end : (s t : List ℕ) (w : Option (Which × List ℕ)) → EndsIn s t → WhichEndsIn t w → WidthEndsIn s (star_taken t w)
star_end s t None h k = h
star_end s t (Some (At n, rest)) h k = through s t rest h k
star_end s t (Some (Next, rest)) h k = h
star_end s t (Some (Named name, rest)) h k = h

width_end : (f : Format) (s : List ℕ) → WidthEndsIn s (width_front f s)
unfolding width_front
width_end f s =
    let t = behind_first_byte s in
    either (WidthEndsIn s) (begins_with 42 s && has_stars f) (star_taken t (which_front f t)) (0, behind_directive_run Digit s)
    (star_end s t (which_front f t) (first_end s) (which_end f t)) (run_end Digit s)

precision_end : (f : Format) (s : List ℕ) → WidthEndsIn s (precision_front f s)
unfolding precision_front
precision_end f s =
    let t = behind_first_byte s in
    either (WidthEndsIn s) (begins_with 46 s) (width_front f t) (0, s)
    (through s t (width_front f t).1 (first_end s) (width_end f t)) (whole s)

widths_end : (f : Format) (s : List ℕ) → WidthEndsIn s (widths_front f s)
widths_end f s =
    let t = (width_front f s).1 in
    through s t (precision_front f t).1 (width_end f s) (precision_end f t)

-- ---- what follows a piece_front

abbrev pub FrontEndsIn : List ℕ → PieceFront → Type 0
FrontEndsIn s End = Unit {0}
FrontEndsIn s (Takes says rest) = EndsIn s rest
FrontEndsIn s Broken = Unit {0}

later : (s t : List ℕ) (x : PieceFront) → EndsIn s t → FrontEndsIn t x → FrontEndsIn s x
later s t End h k = tt
later s t (Takes says rest) h k = through s t rest h k
later s t Broken h k = tt

converts_end : (which : Which) (stars : ℕ) (size : List ℕ) (kind : Option Kind) (s : List ℕ)
    → FrontEndsIn s (converts which stars size kind s)
converts_end which stars size (Some kind) s = whole s
converts_end which stars size None s = tt

macro_end_end : (which : Which) (stars : ℕ) (kind : Option Kind) (bits s : List ℕ) → FrontEndsIn s (macro_end which stars kind bits s)
macro_end_end which stars kind bits s =
    let rest = behind_first_byte s in
    either (FrontEndsIn s) (begins_with 62 s && not (is_without_bytes bits)) (converts which stars bits kind rest) Broken
    (later s rest (converts which stars bits kind rest) (first_end s) (converts_end which stars bits kind rest)) tt

-- what follows a word
abbrev WordEndsIn : List ℕ → Option (List ℕ) → Type 0
WordEndsIn s None = Unit {0}
WordEndsIn s (Some rest) = EndsIn s rest

word_later : (b : ℕ) (s : List ℕ) (rest : Option (List ℕ)) → WordEndsIn s rest → WordEndsIn (b ∷ s) rest
word_later b s None h = tt
word_later b s (Some rest) h = longer b s rest h

word_end : (word s : List ℕ) → WordEndsIn s (after_directive_word word s)
word_end [] s = whole s
word_end (w ∷ word) [] = tt
word_end (w ∷ word) (b ∷ s) =
    either (WordEndsIn (b ∷ s)) (w == b) (after_directive_word word s) None (word_later b s (after_directive_word word s) (word_end word s)) tt

letter_end : (which : Which) (stars : ℕ) (s : List ℕ) (rest : Option (List ℕ)) → WordEndsIn s rest
    → FrontEndsIn s (macro_letter which stars rest)
letter_end which stars s None h = tt
letter_end which stars s (Some []) h = tt
letter_end which stars s (Some (b ∷ t)) h =
    let rest = behind_directive_run Macro t in
    let bits = run_front Macro t in
    either (FrontEndsIn s) (is_one_of (codes "diouxX") b) (macro_end which stars (c_kind b) bits rest) Broken
    (later s rest (macro_end which stars (c_kind b) bits rest) (through s (b ∷ t) rest h (longer b t rest (run_end Macro t)))
    (macro_end_end which stars (c_kind b) bits rest)) tt

conversion_end : (f : Format) (which : Which) (stars : ℕ) (size s : List ℕ) → FrontEndsIn s (conversion_front f which stars size s)
conversion_end f which stars size [] = tt
conversion_end f which stars size (b ∷ s) =
    let letter = macro_letter which stars (after_directive_word (codes "PRI") s) in
    let sized = size_at f b size in
    let other = converts which stars sized (kind_of f b) s in
    let P = FrontEndsIn (b ∷ s) in
    either P (is_one_of (silent_conversions f) b) (Takes None s) (if b == 60 && has_macros f then letter else other)
    (longer b s s (whole s))
    (either P (b == 60 && has_macros f) letter other
    (later (b ∷ s) s letter (longer b s s (whole s)) (letter_end which stars s (after_directive_word (codes "PRI") s) (word_end (codes "PRI") s)))
    (later (b ∷ s) s other (longer b s s (whole s)) (converts_end which stars sized (kind_of f b) s)))

flagged_end : (f : Format) (s : List ℕ) (w : Option (Which × List ℕ)) → WhichEndsIn s w → FrontEndsIn s (flagged_front f w)
flagged_end f s None h = tt
flagged_end f s (Some (which, t)) h =
    let flags = behind_directive_run (Flag f) t in
    let widths = widths_front f flags in
    let rest = behind_directive_run (Size f) widths.1 in
    let behind : EndsIn s rest
    = through s t rest h (through t flags rest (run_end (Flag f) t)
    (through flags widths.1 rest (widths_end f flags) (run_end (Size f) widths.1))) in
    later s rest (conversion_front f which widths.0 (argument_size_of f widths.1) rest) behind
    (conversion_end f which widths.0 (argument_size_of f widths.1) rest)

printf_end : (f : Format) (s : List ℕ) → FrontEndsIn s (printf_front f s)
unfolding printf_front
printf_end f s = flagged_end f s (which_front f s) (which_end f s)

takes_place_end : (s : List ℕ) (w : Option (Which × List ℕ)) → WhichEndsIn s w → FrontEndsIn s (takes_place w)
takes_place_end s None h = tt
takes_place_end s (Some (which, rest)) h = h

barred_end_end : (s : List ℕ) (w : Option (Which × List ℕ)) → WhichEndsIn s w → FrontEndsIn s (barred_end w)
barred_end_end s None h = tt
barred_end_end s (Some (which, t)) h =
    let rest = behind_first_byte (behind_directive_run Barred t) in
    either (FrontEndsIn s) (begins_with 124 (behind_directive_run Barred t)) (takes which rest) Broken
    (through s t rest h (run_first_end Barred t)) tt

boost_end : (s : List ℕ) → FrontEndsIn s (boost_front s)
unfolding boost_front
boost_end s =
    let inner = behind_first_byte s in
    let barred = barred_end (place_front inner) in
    let rest = behind_first_byte (behind_directive_run Digit s) in
    let place = at_place (place_of_digits (run_front Digit s)) rest in
    let is_place = begins_with 37 (behind_directive_run Digit s) && not (is_without_bytes (run_front Digit s)) in
    let P = FrontEndsIn s in
    either P (begins_with 124 s) barred (if is_place then takes_place place else printf_front Boost s)
    (later s inner barred (first_end s) (barred_end_end inner (place_front inner) (place_end inner)))
    (either P is_place (takes_place place) (printf_front Boost s)
    (takes_place_end s place (which_later s rest place (run_first_end Digit s) (at_place_end (place_of_digits (run_front Digit s)) rest)))
    (printf_end Boost s))

letter_of_end : (f : Format) (s : List ℕ) → EndsIn s (behind_letter f s)
letter_of_end Kde s = whole s
letter_of_end C s = either (EndsIn s) (begins_with 76 s) (behind_first_byte s) s (first_end s) (whole s)
letter_of_end ObjectiveC s = either (EndsIn s) (begins_with 76 s) (behind_first_byte s) s (first_end s) (whole s)
letter_of_end Python s = either (EndsIn s) (begins_with 76 s) (behind_first_byte s) s (first_end s) (whole s)
letter_of_end JavaScript s = either (EndsIn s) (begins_with 76 s) (behind_first_byte s) s (first_end s) (whole s)
letter_of_end Boost s = either (EndsIn s) (begins_with 76 s) (behind_first_byte s) s (first_end s) (whole s)
letter_of_end Qt s = either (EndsIn s) (begins_with 76 s) (behind_first_byte s) s (first_end s) (whole s)
letter_of_end QtPlural s = either (EndsIn s) (begins_with 76 s) (behind_first_byte s) s (first_end s) (whole s)
letter_of_end PythonBrace s = either (EndsIn s) (begins_with 76 s) (behind_first_byte s) s (first_end s) (whole s)
letter_of_end PerlBrace s = either (EndsIn s) (begins_with 76 s) (behind_first_byte s) s (first_end s) (whole s)
letter_of_end Java s = either (EndsIn s) (begins_with 76 s) (behind_first_byte s) s (first_end s) (whole s)

numbered_end : (f : Format) (s : List ℕ) → FrontEndsIn s (numbered_front f s)
unfolding numbered_front
numbered_end f s =
    let t = behind_letter f s in
    let digits = number_front f t in
    let P = FrontEndsIn s in
    let at = takes (At (place_of_digits digits)) (drop (length digits) t) in
    either P (is_the_number f t) (takes (Named (codes "n")) (behind_first_byte t)) (if is_without_bytes digits then Takes None s else at)
    (through s t (behind_first_byte t) (letter_of_end f s) (first_end t))
    (either P (is_without_bytes digits) (Takes None s) at (whole s)
    (through s t (drop (length digits) t) (letter_of_end f s) (drop_end (length digits) t)))

closing_end : (quotes quoted : Bool) (depth : ℕ) (s : List ℕ) → WordEndsIn s (behind_closing quotes quoted depth s)
closing_end quotes quoted depth [] = tt
closing_end quotes quoted depth (b ∷ s) =
    let P = WordEndsIn (b ∷ s) in
    let turned = behind_closing quotes (not quoted) depth s in
    let same = behind_closing quotes quoted depth s in
    let deeper = behind_closing quotes quoted (depth + 1) s in
    let higher = behind_closing quotes quoted (depth - 1) s in
    let turns : P turned = word_later b s turned (closing_end quotes (not quoted) depth s) in
    let stays : P same = word_later b s same (closing_end quotes quoted depth s) in
    let opens : P deeper = word_later b s deeper (closing_end quotes quoted (depth + 1) s) in
    let closes : P higher = word_later b s higher (closing_end quotes quoted (depth - 1) s) in
    let ends : P (Some s) = longer b s s (whole s) in
    let last = if b == 125 then higher else same in
    let found = if b == 125 && depth == 0 then Some s else last in
    let opened = if b == 123 then deeper else found in
    let unquoted = if quoted then same else opened in
    either P (b == 39 && quotes) turned unquoted turns
    (either P quoted same opened stays
    (either P (b == 123) deeper found opens
    (either P (b == 125 && depth == 0) (Some s) last ends
    (either P (b == 125) higher same closes stays))))

no_field_end : (f : Format) (s : List ℕ) → FrontEndsIn s (no_field f s)
no_field_end PerlBrace s = whole s
no_field_end C s = tt
no_field_end ObjectiveC s = tt
no_field_end Python s = tt
no_field_end JavaScript s = tt
no_field_end Boost s = tt
no_field_end Qt s = tt
no_field_end QtPlural s = tt
no_field_end Kde s = tt
no_field_end PythonBrace s = tt
no_field_end Java s = tt

styled_end : (which : Which) (s : List ℕ) (rest : Option (List ℕ)) → WordEndsIn s rest → FrontEndsIn s (styled_field which rest)
styled_end which s None h = tt
styled_end which s (Some rest) h = h

field_end_end : (f : Format) (s name t : List ℕ) → EndsIn s t → FrontEndsIn s (field_end f s name t)
field_end_end f s name [] h = no_field_end f s
field_end_end f s name (b ∷ rest) h =
    let P = FrontEndsIn s in
    let none = no_field f s in
    let one = takes (field_which name) rest in
    let closing = behind_closing (has_quotes f) false 0 rest in
    let styled = styled_field (field_which name) closing in
    let behind : EndsIn s rest = through s (b ∷ rest) rest h (longer b rest rest (whole rest)) in
    either P (not (fits_field f name)) none (if b == 125 then one else if begins_style f b then styled else none) (no_field_end f s)
    (either P (b == 125) one (if begins_style f b then styled else none) behind
    (either P (begins_style f b) styled none
    (later s rest styled behind (styled_end (field_which name) rest closing (closing_end (has_quotes f) false 0 rest))) (no_field_end f s)))

field_front_end : (f : Format) (s : List ℕ) → FrontEndsIn s (field_front f s)
field_front_end f s = field_end_end f s (run_front (Field f) s) (behind_directive_run (Field f) s) (run_end (Field f) s)

brace_end : (f : Format) (s : List ℕ) → FrontEndsIn s (brace_front f s)
unfolding brace_front
brace_end PythonBrace s =
    either (FrontEndsIn s) (begins_with 123 s) (Takes None (behind_first_byte s)) (field_front PythonBrace s) (first_end s)
    (field_front_end PythonBrace s)
brace_end C s = field_front_end C s
brace_end ObjectiveC s = field_front_end ObjectiveC s
brace_end Python s = field_front_end Python s
brace_end JavaScript s = field_front_end JavaScript s
brace_end Boost s = field_front_end Boost s
brace_end Qt s = field_front_end Qt s
brace_end QtPlural s = field_front_end QtPlural s
brace_end Kde s = field_front_end Kde s
brace_end PerlBrace s = field_front_end PerlBrace s
brace_end Java s = field_front_end Java s

directive_end : (f : Format) (s : List ℕ) → FrontEndsIn s (directive_front f s)
directive_end Boost s = boost_end s
directive_end C s = printf_end C s
directive_end ObjectiveC s = printf_end ObjectiveC s
directive_end Python s = printf_end Python s
directive_end JavaScript s = printf_end JavaScript s
directive_end Qt s = numbered_end Qt s
directive_end QtPlural s = numbered_end QtPlural s
directive_end Kde s = numbered_end Kde s
directive_end PythonBrace s = brace_end PythonBrace s
directive_end PerlBrace s = brace_end PerlBrace s
directive_end Java s = brace_end Java s

closing_front_end : (f : Format) (s : List ℕ) → FrontEndsIn s (closing_front f s)
closing_front_end PythonBrace s = either (FrontEndsIn s) (begins_with 125 s) (Takes None (behind_first_byte s)) Broken (first_end s) tt
closing_front_end Java s = tt
closing_front_end C s = whole s
closing_front_end ObjectiveC s = whole s
closing_front_end Python s = whole s
closing_front_end JavaScript s = whole s
closing_front_end Boost s = whole s
closing_front_end Qt s = whole s
closing_front_end QtPlural s = whole s
closing_front_end Kde s = whole s
closing_front_end PerlBrace s = whole s

-- what follows the piece_front of a text is its end
pub front_end : (f : Format) (s : List ℕ) → FrontEndsIn s (piece_front f s)
front_end f [] = tt
front_end f (b ∷ s) =
    let P = FrontEndsIn (b ∷ s) in
    let directive = directive_front f s in
    let behind : EndsIn (b ∷ s) s = longer b s s (whole s) in
    let closing = closing_front f s in
    let plain = if b == 125 then closing else Takes None s in
    let other = if b == 39 && has_quotes f then java_quoted_front s else plain in
    either P (b == opening_in (family_of f)) directive other (later (b ∷ s) s directive behind (directive_end f s))
    (either P (b == 39 && has_quotes f) (java_quoted_front s) plain
    (longer b s (behind_first_byte (behind_directive_run Unquoted s)) (run_first_end Unquoted s))
    (either P (b == 125) closing (Takes None s) (later (b ∷ s) s closing behind (closing_front_end f s)) behind))
