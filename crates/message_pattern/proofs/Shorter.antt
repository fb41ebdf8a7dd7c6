-- What follows a step is shorter than the text.
use Rattle.std.proofs.Common.{◌≡◌, ◌==◌, inl, inr, ◌<◌, ◌≤◌, ◌-◌, ℕ, zero, suc, List, [], ◌∷◌, Bool, true, false, not, ◌&&◌, ◌||◌, Option, Some, None, codes, length, ap, arith, if◌then◌else◌}
use Rattle.std.proofs.lemmas.List.{length-append}
use Rattle.pattern_bytes.specs.declared.bytes.Class.{Class}
use Rattle.pattern_bytes.specs.declared.bytes.Class.TheVariants.{Name, Number, Digit, Letter, Unquoted}
use Rattle.pattern_bytes.specs.declared.bytes.Class.TheVariants as class
use Rattle.message_pattern.specs.declared.head.Formats.{Formats}
use Rattle.message_pattern.specs.declared.part.ArgumentKind.{ArgumentKind}
use Rattle.message_pattern.specs.declared.part.ArgumentKind.TheVariants.{Plural, Ordinal, Select}
use Rattle.message_pattern.specs.declared.text.Context.{Context}
use Rattle.pattern_bytes.specs.PatternBytes.{apostrophe, hash, opening, closing, behind_run, skip, white_width, after_white, after_word}
use Rattle.message_pattern.specs.PatternText.{Front, End, Closes, Opens, Takes, takes_text, message_front, is_nested, is_counted, is_quotable, apostrophe_front, quoted_apostrophe}
use Rattle.message_pattern.specs.PatternParts.{Selector, Exactly, Keyword, Hash}
use Rattle.message_pattern.specs.PatternHeads.{Head, Plain, Choice, BranchFront}
use Rattle.message_pattern.specs.PatternHeads as branch
use Rattle.message_pattern.specs.PatternGrammar.{IsLongest, IsArgumentType, IsOffsetValue, IsOffset, IsSelector}
use Rattle.message_pattern.specs.Inner.PatternViews.{IsShorter}
use Rattle.message_pattern.proofs.GrammarHeads.{HeadIs, BranchIs}

-- what is shorter than a text is shorter than a longer one
pub shorter_too : (f : Front) (s t : List ℕ) → IsShorter f s → length s ≤ length t → IsShorter f t
shorter_too End s t h le = tt
shorter_too (Closes rest) s t h le = omega (arith, h)
shorter_too (Opens rest) s t h le = omega (arith, h)
shorter_too (Takes p quoted rest) s t h le = omega (arith, h)

le_step : (v : Bool) (r s : List ℕ) (b : ℕ) → length r ≤ length s → length (if v then r else b ∷ s) ≤ length (b ∷ s)
le_step true r s b h = omega (arith, h)
le_step false r s b h = omega arith

ge_step : (v : Bool) (r s : List ℕ) (b : ℕ) → length r ≤ length s → length (if v then b ∷ s else r) ≤ length (b ∷ s)
ge_step true r s b h = omega arith
ge_step false r s b h = omega (arith, h)

behind_le : (k : Class) (s : List ℕ) → length (behind_run k s) ≤ length s
behind_le k [] = omega arith
behind_le k (b ∷ s) = le_step _ (behind_run k s) s b (behind_le k s)

skip_le : (n : ℕ) (s : List ℕ) → length (skip n s) ≤ length s
skip_le zero [] = omega arith
skip_le (suc n) [] = omega arith
skip_le zero (b ∷ s) = ge_step (white_width (b ∷ s) == 0) (skip (white_width (b ∷ s) - 1) s) s b (skip_le (white_width (b ∷ s) - 1) s)
skip_le (suc n) (b ∷ s) = let h : length (skip n s) ≤ length s = skip_le n s in omega (arith, h)

pub white_le : (s : List ℕ) → length (after_white s) ≤ length s
white_le s = skip_le 0 s

no_some : {A : Type 0} {t : A} → None ≡ Some t → ⊥
no_some e = cc

word_step : (v : Bool) (o : Option (List ℕ)) (s t : List ℕ) (b : ℕ) → ((u : List ℕ) → o ≡ Some u → length u ≤ length s)
    → (if v then o else None) ≡ Some t → length t ≤ length (b ∷ s)
word_step true o s t b h e = let k : length t ≤ length s = h t e in omega (arith, k)
word_step false o s t b h e = absurd (no_some e)

word_le : (word s t : List ℕ) → after_word word s ≡ Some t → length t ≤ length s
word_le [] s t e = let f : s ≡ t = (let g : Some s ≡ Some t = e in cc) in omega (arith, ap length f)
word_le (w ∷ word) [] t e = absurd (no_some e)
word_le (w ∷ word) (b ∷ s) t e = word_step (w == b) (after_word word s) s t b (λ u h. word_le word s u h) e

-- ---- text

choose : (v : Bool) (f g : Front) (s : List ℕ) → IsShorter f s → IsShorter g s → IsShorter (if v then f else g) s
choose true f g s h k = h
choose false f g s h k = k

less : (b : ℕ) (s : List ℕ) → length s < length (b ∷ s)
less b s = omega arith

less_two : (a b : ℕ) (s : List ℕ) → length s < length (a ∷ b ∷ s)
less_two a b s = omega arith

quoted_shorter : (b : ℕ) (s : List ℕ) → IsShorter (quoted_apostrophe s) (b ∷ s)
quoted_shorter b [] = less b []
quoted_shorter b (c ∷ s) =
    choose (c == apostrophe) (takes_text (apostrophe ∷ []) true s) (Takes None false (c ∷ s)) (b ∷ c ∷ s) (less_two b c s) (less b (c ∷ s))

quoted_by : (v : Bool) (b : ℕ) (s t : List ℕ)
    → IsShorter (if v then quoted_apostrophe s else takes_text t true (if not v then behind_run Unquoted s else b ∷ s)) (b ∷ s)
quoted_by true b s t = quoted_shorter b s
quoted_by false b s t = let h : length (behind_run Unquoted s) ≤ length s = behind_le Unquoted s in omega (arith, h)

apostrophe_shorter : (c : Context) (b : ℕ) (s : List ℕ) → IsShorter (apostrophe_front c s) (b ∷ s)
apostrophe_shorter c b [] = less b []
apostrophe_shorter c b (n ∷ s) =
    choose (n == apostrophe) (takes_text (apostrophe ∷ []) false s)
    (if is_quotable c n then Takes None true (n ∷ s) else takes_text (apostrophe ∷ []) false (n ∷ s)) (b ∷ n ∷ s) (less_two b n s)
    (choose (is_quotable c n) (Takes None true (n ∷ s)) (takes_text (apostrophe ∷ []) false (n ∷ s)) (b ∷ n ∷ s)
    (less b (n ∷ s)) (less b (n ∷ s)))

plain_by : (a o e h : Bool) (c : Context) (b : ℕ) (s t : List ℕ)
    → IsShorter
    (if a then apostrophe_front c s else if o then Opens s else if e && is_nested c then Closes s else if h && is_counted c
    then Takes (Some Hash) false s
    else if e || h then takes_text (b ∷ []) false s
    else takes_text t false (if not (a || o || e || h) then behind_run class.Plain s else b ∷ s))
    (b ∷ s)
plain_by true o e h c b s t = apostrophe_shorter c b s
plain_by false true e h c b s t = less b s
plain_by false false true h c b s t =
    choose (is_nested c) (Closes s) (if h && is_counted c then Takes (Some Hash) false s else takes_text (b ∷ []) false s)
    (b ∷ s) (less b s)
    (choose (h && is_counted c) (Takes (Some Hash) false s) (takes_text (b ∷ []) false s) (b ∷ s) (less b s) (less b s))
plain_by false false false true c b s t =
    choose (is_counted c) (Takes (Some Hash) false s) (takes_text (b ∷ []) false s) (b ∷ s) (less b s) (less b s)
plain_by false false false false c b s t = let k : length (behind_run class.Plain s) ≤ length s =
    behind_le class.Plain s in omega (arith, k)

pub front_shorter : (c : Context) (q : Bool) (s : List ℕ) → IsShorter (message_front c q s) s
front_shorter c true [] = tt
front_shorter c false [] = tt
front_shorter c true (b ∷ s) = quoted_by (b == apostrophe) b s _
front_shorter c false (b ∷ s) = plain_by (b == apostrophe) (b == opening) (b == closing) (b == hash) c b s _

-- ---- heads

longest_le : (k : Class) (s t r : List ℕ) → IsLongest k s t r → length r ≤ length s
longest_le k s t r l = omega (arith, ap length l.whole, length-append t r)

value_le : (s : List ℕ) (offset : Option (List ℕ)) (rest : List ℕ) → IsOffsetValue s offset rest → length rest ≤ length s
value_le s None rest h = omega (arith, ap length h.1)
value_le s (Some digits) rest h =
    omega (arith, word_le (codes "offset:") s h.0 h.1, white_le h.0, longest_le Digit (after_white h.0) digits rest h.2)

offset_le : (kind : ArgumentKind) (s : List ℕ) (offset : Option (List ℕ)) (rest : List ℕ) → IsOffset kind s offset rest
    → length rest ≤ length s
offset_le Select s offset rest h = omega (arith, ap length h.1)
offset_le Plural s offset rest h = omega (arith, value_le (after_white s) offset rest h, white_le s)
offset_le Ordinal s offset rest h = omega (arith, value_le (after_white s) offset rest h, white_le s)

letters_le : (s v : List ℕ) (kind : ArgumentKind) → IsArgumentType (after_white s) kind v → length v ≤ length (after_white s)
letters_le s v kind i = longest_le Letter (after_white s) i.word v i.letters

pub head_le : (formats : Formats) (s : List ℕ) (h : Head) (rest : List ℕ) → HeadIs formats s h rest → length rest ≤ length s
head_le formats s (Plain text) rest (inr i) = omega (arith, white_le s, ap length i.1, length-append text (closing ∷ rest))
head_le formats s (Plain name) rest (inl i) =
    omega (arith, white_le s, white_le i.0, longest_le Name (after_white s) name i.0 i.1.bytes, ap length i.2)
head_le formats s (Choice kind name offset) rest i =
    omega (
      arith,
      white_le s,
      longest_le Name (after_white s) name i.0 i.4.bytes,
      white_le i.0,
      ap length i.5,
      white_le i.1,
      letters_le i.1 i.2 kind i.6,
      white_le i.2,
      ap length i.7,
      offset_le kind i.3 offset rest i.8,
    )

selector_le : (kind : ArgumentKind) (s : List ℕ) (sel : Selector) (t : List ℕ) → IsSelector kind s sel t → length t ≤ length s
selector_le kind s (Exactly number) t h = omega (arith, ap length h.1, longest_le Number h.0 number t h.3)
selector_le kind s (Keyword word) t h = longest_le Name s word t h.0

-- what follows is shorter
abbrev pub IsLess : BranchFront → List ℕ → Type 0
IsLess (branch.Closes rest) s = length rest < length s
IsLess (branch.Opens sel rest) s = length rest < length s

pub branch_less : (kind : ArgumentKind) (o : Bool) (s t : List ℕ) (x : BranchFront) → after_white s ≡ t → BranchIs kind o t x → IsLess x s
branch_less kind o s t (branch.Closes rest) e h = omega (arith, white_le s, ap length e, ap length h.1)
branch_less kind o s t (branch.Opens sel rest) e h =
    omega (arith, white_le s, ap length e, selector_le kind t sel h.0 h.1, white_le h.0, ap length h.2)
