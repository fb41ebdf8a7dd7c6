-- Heads that are printed are read back.
use Rattle.std.proofs.Common.{◌≡◌, ◌≢◌, ◌==◌, ◌-◌, ℕ, zero, suc, List, [], ◌∷◌, ◌++◌, Bool, true, false, not, ◌&&◌, ◌||◌, ◌⊎◌, inl, inr, Option, Some, None, codes, refl, sym, ap, subst, ◌∙◌, arith, if◌then◌else◌}
use Rattle.std.proofs.lemmas.Bool.{eqb-true}
use Rattle.std.proofs.lemmas.Bool.Decides.{nat_tests}
use Rattle.pattern_bytes.specs.declared.bytes.Class.{Class}
use Rattle.pattern_bytes.specs.declared.bytes.Class.TheVariants.{Name, Number, Digit, Letter}
use Rattle.message_pattern.specs.declared.part.ArgumentKind.{ArgumentKind}
use Rattle.message_pattern.specs.declared.part.ArgumentKind.TheVariants.{Plural, Ordinal, Select}
use Rattle.pattern_bytes.specs.PatternBytes.{comma, equals, opening, closing, is_between, is_digit, is_in, begins, white_width, skip, after_white, after_word}
use Rattle.message_pattern.specs.PatternParts.{Selector, Exactly, Keyword}
use Rattle.message_pattern.specs.PatternGrammar.{IsLongest, IsNameOrNumber, IsArgumentType, IsOffsetValue, IsOffset, IsSelector}
use Rattle.message_pattern.specs.PatternPrinting.{kind_text, offset_text, selector_text}
use Rattle.message_pattern.proofs.Longest.{AllBegin, first, later, each_in, is_longest, longest_begins}

-- ---- white space

-- the white space of one byte
abbrev is_blank : ℕ → Bool
is_blank b = is_between 9 13 b || b == 32

white_stays : (b : ℕ) (s : List ℕ) → (white_width (b ∷ s) == 0) ≡ true → after_white (b ∷ s) ≡ b ∷ s
white_stays b s e = ap (λ (v : Bool). if v then b ∷ s else skip (white_width (b ∷ s) - 1) s) e

-- ASCII that isn't white space
pub comma_stays : (s : List ℕ) → after_white (comma ∷ s) ≡ comma ∷ s
comma_stays [] = refl
comma_stays (a ∷ []) = refl
comma_stays (a ∷ b ∷ s) = refl

pub closing_stays : (s : List ℕ) → after_white (closing ∷ s) ≡ closing ∷ s
closing_stays [] = refl
closing_stays (a ∷ []) = refl
closing_stays (a ∷ b ∷ s) = refl

opening_stays : (s : List ℕ) → after_white (opening ∷ s) ≡ opening ∷ s
opening_stays [] = refl
opening_stays (a ∷ []) = refl
opening_stays (a ∷ b ∷ s) = refl

equals_stays : (s : List ℕ) → after_white (equals ∷ s) ≡ equals ∷ s
equals_stays [] = refl
equals_stays (a ∷ []) = refl
equals_stays (a ∷ b ∷ s) = refl

-- a blank is passed
pub blank_passed : (s : List ℕ) → after_white (32 ∷ s) ≡ after_white s
blank_passed [] = refl
blank_passed (a ∷ []) = refl
blank_passed (a ∷ b ∷ s) = refl

-- behind white space is none
again_step : (v : Bool) (b : ℕ) (s : List ℕ) → (white_width (b ∷ s) == 0) ≡ v
    → skip 0 (skip (white_width (b ∷ s) - 1) s) ≡ skip (white_width (b ∷ s) - 1) s
    → skip 0 (if v then b ∷ s else skip (white_width (b ∷ s) - 1) s) ≡ (if v then b ∷ s else skip (white_width (b ∷ s) - 1) s)
again_step true b s e h = white_stays b s e
again_step false b s e h = h

skip_again : (n : ℕ) (s : List ℕ) → skip 0 (skip n s) ≡ skip n s
skip_again zero [] = refl
skip_again (suc n) [] = refl
skip_again zero (b ∷ s) = again_step (white_width (b ∷ s) == 0) b s refl (skip_again (white_width (b ∷ s) - 1) s)
skip_again (suc n) (b ∷ s) = skip_again n s

pub white_again : (s : List ℕ) → after_white (after_white s) ≡ after_white s
white_again s = skip_again 0 s

-- ---- longest fronts before other rests

moves : (k : Class) (w t r : List ℕ) → ((b : ℕ) (v : List ℕ) → begins k (b ∷ (v ++ t)) ≡ true → begins k (b ∷ (v ++ r)) ≡ true)
    → AllBegin k (w ++ t) w → AllBegin k (w ++ r) w
moves k [] t r stay a i l = absurd (omega (arith, l))
moves k (b ∷ w) t r stay a zero l = stay b w (first k b w (w ++ t) a)
moves k (b ∷ w) t r stay a (suc i) l = moves k w t r stay (later k b w (w ++ t) a) i (omega (arith, l))

-- where the bytes of the class stay so before the rest r, and none begins there, a longest front is
-- one before r
moved : (k : Class) (s w t r : List ℕ) → ((b : ℕ) (v : List ℕ) → begins k (b ∷ (v ++ t)) ≡ true → begins k (b ∷ (v ++ r)) ≡ true)
    → begins k r ≡ false → IsLongest k s w t → IsLongest k (w ++ r) w r
moved k s w t r stay stop l = record { whole = refl; each = moves k w t r stay (each_in k s w t l); longest = stop }

-- a byte that ends a name: no byte of a name, nor one that white space has behind its first
pub record EndsName (x : ℕ) : Type 0 where
  pub no_name : is_in Name x ≡ false
  pub no_next_line : (x == 0x85) ≡ false
  pub no_second : (x == 0x80) ≡ false
  pub no_third : (is_between 0x8e 0x8f x || is_between 0xa8 0xa9 x) ≡ false

if_one : (v : Bool) (n : ℕ) → ((if v then 1 else n) == 0) ≡ true → v ≡ false
if_one true n e = absurd (let x : false ≡ true = e in cc)
if_one false n e = refl

-- a first byte that isn't white space
not_blank : (b : ℕ) (s : List ℕ) → (white_width (b ∷ s) == 0) ≡ true → is_blank b ≡ false
not_blank b [] e = if_one (is_blank b) 0 e
not_blank b (a ∷ []) e = if_one (is_blank b) (if b == 0xc2 && a == 0x85 then 2 else 0) e
not_blank b (a ∷ c ∷ s) e =
    if_one (is_blank b) (if b == 0xc2 && a == 0x85 then 2
    else if (b == 0xe2 && a == 0x80) && (is_between 0x8e 0x8f c || is_between 0xa8 0xa9 c) then 3 else 0) e

if_two : (w v : Bool) (n : ℕ) → ((if w then 1 else if v then 2 else n) == 0) ≡ true → v ≡ false
if_two true v n e = absurd (let x : false ≡ true = e in cc)
if_two false true n e = absurd (let x : false ≡ true = e in cc)
if_two false false n e = refl

not_next_line : (b a : ℕ) (s : List ℕ) → (white_width (b ∷ a ∷ s) == 0) ≡ true → (b == 0xc2 && a == 0x85) ≡ false
not_next_line b a [] e = if_two (is_blank b) (b == 0xc2 && a == 0x85) 0 e
not_next_line b a (c ∷ s) e =
    if_two (is_blank b) (b == 0xc2 && a == 0x85)
    (if (b == 0xe2 && a == 0x80) && (is_between 0x8e 0x8f c || is_between 0xa8 0xa9 c) then 3 else 0) e

and_no : (a b : Bool) → b ≡ false → (a && b) ≡ false
and_no true b e = e
and_no false b e = refl

no_white : (w v u : Bool) → w ≡ false → v ≡ false → u ≡ false → ((if w then 1 else if v then 2 else if u then 3 else 0) == 0) ≡ true
no_white w v u e f g = rw (e, f, g)

no_white_two : (w v : Bool) → w ≡ false → v ≡ false → ((if w then 1 else if v then 2 else 0) == 0) ≡ true
no_white_two w v e f = rw (e, f)

-- before a byte that ends a name is no white space that wasn't
width_last : (x : ℕ) (r : List ℕ) (b : ℕ) → EndsName x → is_blank b ≡ false → (white_width (b ∷ x ∷ r) == 0) ≡ true
width_last x [] b n e = no_white_two (is_blank b) (b == 0xc2 && x == 0x85) e (and_no (b == 0xc2) (x == 0x85) n.no_next_line)
width_last x (a ∷ r) b n e =
    no_white (is_blank b) (b == 0xc2 && x == 0x85) ((b == 0xe2 && x == 0x80) && (is_between 0x8e 0x8f a || is_between 0xa8 0xa9 a)) e
    (and_no (b == 0xc2) (x == 0x85) n.no_next_line)
    (ap (λ (v : Bool). v && (is_between 0x8e 0x8f a || is_between 0xa8 0xa9 a)) (and_no (b == 0xe2) (x == 0x80) n.no_second))

width_stays : (x : ℕ) (r t : List ℕ) (b : ℕ) (v : List ℕ) → EndsName x → (white_width (b ∷ (v ++ t)) == 0) ≡ true
    → (white_width (b ∷ (v ++ x ∷ r)) == 0) ≡ true
width_stays x r t b [] n e = width_last x r b n (not_blank b t e)
width_stays x r t b (a ∷ []) n e =
    no_white (is_blank b) (b == 0xc2 && a == 0x85) ((b == 0xe2 && a == 0x80) && (is_between 0x8e 0x8f x || is_between 0xa8 0xa9 x))
    (not_blank b (a ∷ t) e) (not_next_line b a t e) (and_no (b == 0xe2 && a == 0x80) _ n.no_third)
width_stays x r t b (a ∷ c ∷ v) n e = e

both_true : (a b : Bool) → (a && b) ≡ true → (a ≡ true) × (b ≡ true)
both_true true true e = (refl, refl)
both_true true false e = absurd (let t : false ≡ true = e in cc)
both_true false b e = absurd (let t : false ≡ true = e in cc)

name_stays : (x : ℕ) (r t : List ℕ) → EndsName x → (b : ℕ) (v : List ℕ) → begins Name (b ∷ (v ++ t)) ≡ true
    → begins Name (b ∷ (v ++ x ∷ r)) ≡ true
name_stays x r t n b v e =
    let h = both_true (is_in Name b) (white_width (b ∷ (v ++ t)) == 0) e in
    ap (λ (a : Bool). a && white_width (b ∷ (v ++ x ∷ r)) == 0) h.0 ∙ width_stays x r t b v n h.1

pub name_moved : (x : ℕ) (s w t r : List ℕ) → EndsName x → IsLongest Name s w t → IsLongest Name (w ++ x ∷ r) w (x ∷ r)
name_moved x s w t r n l =
    moved Name s w t (x ∷ r) (name_stays x r t n) (ap (λ (a : Bool). a && white_width (x ∷ r) == 0) n.no_name) l

-- no white space stands before a name
name_first : (x : ℕ) (s w t r : List ℕ) → EndsName x → w ≢ [] → IsLongest Name s w t → after_white (w ++ x ∷ r) ≡ w ++ x ∷ r
name_first x s [] t r n e l = absurd (e refl)
name_first x s (b ∷ w) t r n e l =
    white_stays b (w ++ x ∷ r)
    (both_true (is_in Name b) (white_width (b ∷ (w ++ x ∷ r)) == 0) (name_stays x r t n b w (longest_begins Name s b w t l))).1

pub comma_ends : EndsName comma
comma_ends = record { no_name = refl; no_next_line = refl; no_second = refl; no_third = refl }

pub closing_ends : EndsName closing
closing_ends = record { no_name = refl; no_next_line = refl; no_second = refl; no_third = refl }

blank_ends : EndsName 32
blank_ends = record { no_name = refl; no_next_line = refl; no_second = refl; no_third = refl }

-- ---- the head of an argument

pub name_back : (x : ℕ) (s name t r : List ℕ) → EndsName x → IsNameOrNumber s name t
    → IsNameOrNumber (after_white (name ++ x ∷ r)) name (x ∷ r)
name_back x s name t r n h =
    subst (λ (u : List ℕ). IsNameOrNumber u name (x ∷ r)) (sym (name_first x s name t r n h.nonempty h.bytes))
    (record { bytes = name_moved x s name t r n h.bytes; nonempty = h.nonempty; no_zeros = h.no_zeros })

nonempty : (b : ℕ) (w : List ℕ) → b ∷ w ≢ []
nonempty b w e = cc

-- the type behind the comma
pub record IsTypeThere (kind : ArgumentKind) (s : List ℕ) : Type 0 where
  pub rest : List ℕ
  pub there : IsArgumentType (after_white (kind_text kind ++ s)) kind rest
  pub comma_there : after_white rest ≡ comma ∷ s

pub type_back : (kind : ArgumentKind) (s : List ℕ) → IsTypeThere kind s
type_back Plural s = record {
  rest = comma ∷ s;
  there = record {
    word = codes "plural";
    letters = is_longest Letter (codes "plural," ++ s);
    nonempty = nonempty 112 (codes "lural");
    named = refl;
  };
  comma_there = comma_stays s;
}
type_back Ordinal s = record {
  rest = comma ∷ s;
  there = record {
    word = codes "selectordinal";
    letters = is_longest Letter (codes "selectordinal," ++ s);
    nonempty = nonempty 115 (codes "electordinal");
    named = refl;
  };
  comma_there = comma_stays s;
}
type_back Select s = record {
  rest = comma ∷ s;
  there = record {
    word = codes "select";
    letters = is_longest Letter (codes "select," ++ s);
    nonempty = nonempty 115 (codes "elect");
    named = refl;
  };
  comma_there = comma_stays s;
}

-- ---- the offset

-- neither digits nor an offset are at the front
pub record NoOffset (s : List ℕ) : Type 0 where
  pub no_digit : begins Digit s ≡ false
  pub no_offset : after_word (codes "offset:") (after_white s) ≡ None

digit_no_blank : (b : ℕ) → is_digit b ≡ true → is_blank b ≡ false
digit_no_blank b e = grind (arith, nat_tests)

digit_no : (b n : ℕ) (v : Bool) → (b == n) ≡ v → is_digit b ≡ true → is_digit n ≡ false → (b == n) ≡ false
digit_no b n true e h k = absurd (let t : true ≡ false = sym h ∙ (ap is_digit (eqb-true b n e) ∙ k) in cc)
digit_no b n false e h k = e

digit_width : (b : ℕ) (s : List ℕ) → is_digit b ≡ true → (white_width (b ∷ s) == 0) ≡ true
digit_width b [] e = ap (λ (v : Bool). (if v then 1 else 0) == 0) (digit_no_blank b e)
digit_width b (a ∷ []) e =
    no_white_two (is_blank b) (b == 0xc2 && a == 0x85) (digit_no_blank b e)
    (ap (λ (v : Bool). v && a == 0x85) (digit_no b 0xc2 (b == 0xc2) refl e refl))
digit_width b (a ∷ c ∷ s) e =
    no_white (is_blank b) (b == 0xc2 && a == 0x85) ((b == 0xe2 && a == 0x80) && (is_between 0x8e 0x8f c || is_between 0xa8 0xa9 c))
    (digit_no_blank b e)
    (ap (λ (v : Bool). v && a == 0x85) (digit_no b 0xc2 (b == 0xc2) refl e refl))
    (ap (λ (v : Bool). (v && a == 0x80) && (is_between 0x8e 0x8f c || is_between 0xa8 0xa9 c)) (digit_no b 0xe2 (b == 0xe2) refl e refl))

digits_first : (s w t r : List ℕ) → w ≢ [] → IsLongest Digit s w t → after_white (w ++ r) ≡ w ++ r
digits_first s [] t r e l = absurd (e refl)
digits_first s (b ∷ w) t r e l = white_stays b (w ++ r) (digit_width b (w ++ r) (longest_begins Digit s b w t l))

digits_moved : (s w t r : List ℕ) → begins Digit r ≡ false → IsLongest Digit s w t → IsLongest Digit (w ++ r) w r
digits_moved s w t r stop l = moved Digit s w t r (λ b v e. e) stop l

value_back : (s : List ℕ) (digits t r : List ℕ) → NoOffset r → IsOffsetValue s (Some digits) t
    → IsOffsetValue (after_white (offset_text (Some digits) ++ r)) (Some digits) r
value_back s digits t r n h = (
  digits ++ r,
  refl,
  subst (λ (u : List ℕ). IsLongest Digit u digits r) (sym (digits_first (after_white h.0) digits t r h.3 h.2))
      (digits_moved (after_white h.0) digits t r n.no_digit h.2),
  h.3,
)

-- the offset is read back, and then what follows it or the white space in front of that
abbrev pub IsOffsetBack : ArgumentKind → Option (List ℕ) → List ℕ → Type 0
IsOffsetBack kind offset r = (x : List ℕ) × IsOffset kind (offset_text offset ++ r) offset x × ((x ≡ r) ⊎ (x ≡ after_white r))

none_back : (r : List ℕ) → NoOffset r → IsOffsetValue (after_white r) None (after_white r)
none_back r n = (n.no_offset, refl)

pub offset_back : (kind : ArgumentKind) (s : List ℕ) (offset : Option (List ℕ)) (t r : List ℕ) → NoOffset r → IsOffset kind s offset t
    → IsOffsetBack kind offset r
offset_back Select s None t r n h = (r, (refl, refl), inl refl)
offset_back Select s (Some digits) t r n h = absurd (let e : Some digits ≡ None = h.0 in cc)
offset_back Plural s None t r n h = (after_white r, none_back r n, inr refl)
offset_back Plural s (Some digits) t r n h = (r, value_back (after_white s) digits t r n h, inl refl)
offset_back Ordinal s None t r n h = (after_white r, none_back r n, inr refl)
offset_back Ordinal s (Some digits) t r n h = (r, value_back (after_white s) digits t r n h, inl refl)

-- ---- what stands before a branch

-- a byte of the word is no byte of a name
abbrev has_mark : List ℕ → Bool
has_mark [] = false
has_mark (x ∷ word) = not (is_in Name x) || has_mark word

abbrev lacks_blank : List ℕ → Bool
lacks_blank [] = true
lacks_blank (x ∷ word) = not (x == 32) && lacks_blank word

word_by : (v : Bool) (o : Option (List ℕ)) → (v ≡ true → o ≡ None) → (if v then o else None) ≡ None
word_by true o f = f refl
word_by false o f = refl

not_true : (v : Bool) → not v ≡ true → v ≡ false
not_true true e = absurd (let x : false ≡ true = e in cc)
not_true false e = refl

mark_later : (v m : Bool) → v ≡ true → (not v || m) ≡ true → m ≡ true
mark_later true m e f = f
mark_later false m e f = absurd (let x : false ≡ true = e in cc)

-- a word with such a byte, and no blank, doesn't stand where a name and a blank stand
no_word : (word w t r : List ℕ) → AllBegin Name (w ++ t) w → has_mark word ≡ true → lacks_blank word ≡ true
    → after_word word (w ++ 32 ∷ r) ≡ None
no_word [] w t r a h k = absurd (let x : false ≡ true = h in cc)
no_word (x ∷ word) [] t r a h k =
    ap (λ (v : Bool). if v then after_word word r else None) (not_true (x == 32) (both_true (not (x == 32)) (lacks_blank word) k).0)
no_word (x ∷ word) (b ∷ w) t r a h k =
    word_by (x == b) (after_word word (w ++ 32 ∷ r))
    (λ e. no_word word w t r (later Name b w (w ++ t) a)
    (mark_later (is_in Name x) (has_mark word)
    (ap (λ (n : ℕ). is_in Name n) (eqb-true x b e)
    ∙ (both_true (is_in Name b) (white_width (b ∷ (w ++ t)) == 0) (first Name b w (w ++ t) a)).0) h)
    (both_true (not (x == 32)) (lacks_blank word) k).1)

-- the text before a branch, behind its blank
selector_white : (kind : ArgumentKind) (s : List ℕ) (sel : Selector) (t r : List ℕ) → IsSelector kind s sel t
    → after_white (32 ∷ (selector_text sel ++ 32 ∷ r)) ≡ selector_text sel ++ 32 ∷ r
selector_white kind s (Exactly number) t r h = blank_passed (equals ∷ (number ++ 32 ∷ r)) ∙ equals_stays (number ++ 32 ∷ r)
selector_white kind s (Keyword word) t r h = blank_passed (word ++ 32 ∷ r) ∙ name_first 32 s word t r blank_ends h.1 h.0

selector_moved : (kind : ArgumentKind) (s : List ℕ) (sel : Selector) (t r : List ℕ) → IsSelector kind s sel t
    → IsSelector kind (selector_text sel ++ 32 ∷ r) sel (32 ∷ r)
selector_moved kind s (Exactly number) t r h =
    (number ++ 32 ∷ r, refl, h.2, moved Number h.0 number t (32 ∷ r) (λ b v e. e) refl h.3, h.4)
selector_moved kind s (Keyword word) t r h = (name_moved 32 s word t r blank_ends h.0, h.1)

pub selector_back : (kind : ArgumentKind) (s : List ℕ) (sel : Selector) (t r : List ℕ) → IsSelector kind s sel t
    → IsSelector kind (after_white (32 ∷ (selector_text sel ++ 32 ∷ r))) sel (32 ∷ r)
selector_back kind s sel t r h =
    subst (λ (u : List ℕ). IsSelector kind u sel (32 ∷ r)) (sym (selector_white kind s sel t r h)) (selector_moved kind s sel t r h)

selector_no_word : (kind : ArgumentKind) (s : List ℕ) (sel : Selector) (t r : List ℕ) → IsSelector kind s sel t
    → after_word (codes "offset:") (selector_text sel ++ 32 ∷ r) ≡ None
selector_no_word kind s (Exactly number) t r h = refl
selector_no_word kind s (Keyword word) t r h = no_word (codes "offset:") word t r (each_in Name s word t h.0) refl refl

pub selector_no_offset : (kind : ArgumentKind) (s : List ℕ) (sel : Selector) (t r : List ℕ) → IsSelector kind s sel t
    → NoOffset (32 ∷ (selector_text sel ++ 32 ∷ r))
selector_no_offset kind s sel t r h = record {
  no_digit = refl;
  no_offset = ap (λ (u : List ℕ). after_word (codes "offset:") u) (selector_white kind s sel t r h) ∙ selector_no_word kind s sel t r h;
}

pub closing_no_offset : (r : List ℕ) → NoOffset (closing ∷ r)
closing_no_offset r = record { no_digit = refl; no_offset = ap (λ (u : List ℕ). after_word (codes "offset:") u) (closing_stays r) }

pub brace_back : (r : List ℕ) → after_white (32 ∷ opening ∷ r) ≡ opening ∷ r
brace_back r = blank_passed (opening ∷ r) ∙ opening_stays r
