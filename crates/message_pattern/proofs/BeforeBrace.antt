-- What is read from a text, is read from it before a brace.
use Rattle.std.proofs.Common.{◌≡◌, ◌==◌, ◌≤◌, ◌-◌, ℕ, zero, suc, List, [], ◌∷◌, ◌++◌, Bool, true, false, ◌&&◌, ◌||◌, length, refl, sym, ap, subst, arith, ◌∙◌, if◌then◌else◌}
use Rattle.std.proofs.lemmas.List.{append_cancel_right}
use Rattle.pattern_bytes.specs.declared.bytes.Class.{Class}
use Rattle.pattern_bytes.specs.declared.bytes.Class.TheVariants.{Name, Letter}
use Rattle.pattern_bytes.specs.PatternBytes.{closing, is_between, is_in, begins, class_front, behind_run, white_width, skip, after_white}
use Rattle.message_pattern.specs.PatternGrammar.{IsLongest}
use Rattle.message_pattern.proofs.Longest.{is_longest, longest_run, longest_rest}
use Rattle.message_pattern.proofs.HeadsBack.{closing_stays, closing_ends, name_moved}

-- ---- white space

and_no : (a : Bool) → (a && false) ≡ false
and_no true = refl
and_no false = refl

not_two : (w v : Bool) → v ≡ false → ◌≡◌ {A = ℕ} (if w then 1 else if v then 2 else 0) (if w then 1 else 0)
not_two w v e = rw e

not_both : (w v u : Bool) → v ≡ false → u ≡ false → ◌≡◌ {A = ℕ} (if w then 1 else if v then 2 else if u then 3 else 0) (if w then 1 else 0)
not_both w v u e f = rw (e, f)

not_three : (w v u : Bool) → u ≡ false
    → ◌≡◌ {A = ℕ} (if w then 1 else if v then 2 else if u then 3 else 0) (if w then 1 else if v then 2 else 0)
not_three w v u f = rw f

-- white space in front is that before the brace
width_before : (b : ℕ) (v r : List ℕ) → white_width (b ∷ (v ++ closing ∷ r)) ≡ white_width (b ∷ v)
width_before b [] [] = not_two (is_between 9 13 b || b == 32) (b == 0xc2 && false) (and_no (b == 0xc2))
width_before b [] (c ∷ r) =
    not_both (is_between 9 13 b || b == 32) (b == 0xc2 && false)
    ((b == 0xe2 && false) && (is_between 0x8e 0x8f c || is_between 0xa8 0xa9 c))
    (and_no (b == 0xc2)) (ap (λ (v : Bool). v && (is_between 0x8e 0x8f c || is_between 0xa8 0xa9 c)) (and_no (b == 0xe2)))
width_before b (a ∷ []) r =
    not_three (is_between 9 13 b || b == 32) (b == 0xc2 && a == 0x85) ((b == 0xe2 && a == 0x80) && false) (and_no (b == 0xe2 && a == 0x80))
width_before b (a ∷ c ∷ v) r = refl

one_fits : (w : Bool) → (if w then 1 else 0) ≤ 1
one_fits true = omega arith
one_fits false = omega arith

two_fit : (w v : Bool) → (if w then 1 else if v then 2 else 0) ≤ 2
two_fit true v = omega arith
two_fit false true = omega arith
two_fit false false = omega arith

three_fit : (w v u : Bool) (s : List ℕ) → (if w then 1 else if v then 2 else if u then 3 else 0) ≤ suc (suc (suc (length s)))
three_fit true v u s = omega arith
three_fit false true u s = omega arith
three_fit false false true s = omega arith
three_fit false false false s = omega arith

width_fits : (b : ℕ) (s : List ℕ) → white_width (b ∷ s) ≤ length (b ∷ s)
width_fits b [] = one_fits (is_between 9 13 b || b == 32)
width_fits b (a ∷ []) = two_fit (is_between 9 13 b || b == 32) (b == 0xc2 && a == 0x85)
width_fits b (a ∷ c ∷ s) =
    three_fit (is_between 9 13 b || b == 32) (b == 0xc2 && a == 0x85)
    ((b == 0xe2 && a == 0x80) && (is_between 0x8e 0x8f c || is_between 0xa8 0xa9 c)) s

if_before : (v : Bool) (x y e : List ℕ) → (if v then x ++ e else y ++ e) ≡ (if v then x else y) ++ e
if_before true x y e = refl
if_before false x y e = refl

skip_before : (n : ℕ) (v r : List ℕ) → n ≤ length v → skip n (v ++ closing ∷ r) ≡ skip n v ++ closing ∷ r
skip_before zero [] r h = closing_stays r
skip_before (suc n) [] r h = absurd (omega (arith, h))
skip_before zero (b ∷ v) r h =
    let w = white_width (b ∷ v) in
    ap (λ (k : ℕ). if k == 0 then b ∷ (v ++ closing ∷ r) else skip (k - 1) (v ++ closing ∷ r)) (width_before b v r)
    ∙ (ap (λ (l : List ℕ). if w == 0 then b ∷ (v ++ closing ∷ r) else l) (skip_before (w - 1) v r (omega (arith, width_fits b v)))
    ∙ if_before (w == 0) (b ∷ v) (skip (w - 1) v) (closing ∷ r))
skip_before (suc n) (b ∷ v) r h = skip_before n v r (omega (arith, h))

pub white_before : (v r : List ℕ) → after_white (v ++ closing ∷ r) ≡ after_white v ++ closing ∷ r
white_before v r = skip_before 0 v r (omega arith)

-- ---- names and types

-- the brace is none of the class
abbrev pub EndsAtBrace : Class → Type 0
EndsAtBrace k = (v r : List ℕ) → begins k (v ++ closing ∷ r) ≡ begins k v

pub name_ends : EndsAtBrace Name
name_ends [] r = refl
name_ends (b ∷ v) r = ap (λ (n : ℕ). is_in Name b && n == 0) (width_before b v r)

pub letters_end : EndsAtBrace Letter
letters_end [] r = refl
letters_end (b ∷ v) r = refl

pub front_before : (k : Class) → EndsAtBrace k → (v r : List ℕ) → class_front k (v ++ closing ∷ r) ≡ class_front k v
front_before k f [] r = ap (λ (b : Bool). if b then closing ∷ class_front k r else []) (f [] r)
front_before k f (b ∷ v) r =
    ap (λ (t : Bool). if t then b ∷ class_front k (v ++ closing ∷ r) else []) (f (b ∷ v) r)
    ∙ ap (λ (l : List ℕ). if begins k (b ∷ v) then b ∷ l else []) (front_before k f v r)

pub behind_before : (k : Class) → EndsAtBrace k → (v r : List ℕ) → behind_run k (v ++ closing ∷ r) ≡ behind_run k v ++ closing ∷ r
behind_before k f [] r = ap (λ (b : Bool). if b then behind_run k r else closing ∷ r) (f [] r)
behind_before k f (b ∷ v) r =
    ap (λ (t : Bool). if t then behind_run k (v ++ closing ∷ r) else b ∷ (v ++ closing ∷ r)) (f (b ∷ v) r)
    ∙ (ap (λ (l : List ℕ). if begins k (b ∷ v) then l else b ∷ (v ++ closing ∷ r)) (behind_before k f v r)
    ∙ if_before (begins k (b ∷ v)) (behind_run k v) (b ∷ v) (closing ∷ r))

-- a longest front is one before the brace
pub longest_before : (k : Class) → EndsAtBrace k → (s w t r : List ℕ) → IsLongest k s w t
    → IsLongest k (s ++ closing ∷ r) w (t ++ closing ∷ r)
longest_before k f s w t r l =
    let z = s ++ closing ∷ r in
    subst (λ (u : List ℕ). IsLongest k z u (t ++ closing ∷ r)) (front_before k f s r ∙ longest_run k s w t l)
    (subst (λ (u : List ℕ). IsLongest k z (class_front k z) u)
    (behind_before k f s r ∙ ap (λ (u : List ℕ). u ++ closing ∷ r) (longest_rest k s w t l)) (is_longest k z))

-- a name that stands alone
pub name_alone : (s name t : List ℕ) → IsLongest Name s name t → class_front Name name ≡ name
name_alone s name t l =
    sym (front_before Name name_ends name [])
    ∙ longest_run Name (name ++ closing ∷ []) name (closing ∷ []) (name_moved closing s name t [] closing_ends l)

pub name_whole : (s name t : List ℕ) → IsLongest Name s name t → behind_run Name name ≡ []
name_whole s name t l =
    append_cancel_right (behind_run Name name) [] (closing ∷ [])
    (sym (behind_before Name name_ends name [])
    ∙ longest_rest Name (name ++ closing ∷ []) name (closing ∷ []) (name_moved closing s name t [] closing_ends l))
