-- Arguments with simple formats are those of the grammar.
use Rattle.std.proofs.Common.{◌≡◌, ◌≢◌, ◌==◌, ◌-◌, ℕ, zero, suc, List, [], ◌∷◌, ◌++◌, Bool, true, false, ◌&&◌, Option, Some, None, Result, Ok, Err, length, take, refl, sym, ap, subst, arith, ◌∙◌, append_assoc, if◌then◌else◌}
use Rattle.std.proofs.lemmas.Bool.{eqb-true}
use Rattle.std.proofs.lemmas.List.{append_cancel_right, length-append}
use Rattle.std.proofs.Math.Seq.{take-append_seam}
use Rattle.pattern_bytes.specs.declared.bytes.Class.{Class}
use Rattle.pattern_bytes.specs.declared.bytes.Class.TheVariants.{Name, Letter}
use Rattle.message_pattern.specs.declared.error.Fault.{Fault}
use Rattle.message_pattern.specs.declared.error.FaultKind.TheVariants.{ExpectedEnd}
use Rattle.pattern_bytes.specs.PatternBytes.{comma, closing, begins, is_in, class_front, behind_run, white_width, skip, after_white}
use Rattle.message_pattern.specs.PatternHeads.{Head, Plain, Choice, pattern_fault_at, is_simple_type, text_before, styled_front, simple_front}
use Rattle.message_pattern.specs.PatternGrammar.{IsLongest, IsNameOrNumber, IsSimpleText, IsStyleBehind}
use Rattle.message_pattern.specs.PatternStyles.{behind_style}
use Rattle.message_pattern.proofs.Longest.{is_longest, longest_run, longest_rest, longest_begins}
use Rattle.message_pattern.proofs.BeforeBrace.{white_before, name_ends, letters_end, front_before, behind_before}
use Rattle.message_pattern.proofs.Styles.{style_sound}

-- ---- what ends a text

-- t ends s
abbrev Ends : List ℕ → List ℕ → Type 0
Ends s t = (p : List ℕ) × (s ≡ p ++ t)

chain : (s t u : List ℕ) → Ends s t → Ends t u → Ends s u
chain s t u h k = (h.0 ++ k.0, h.1 ∙ (ap (λ (l : List ℕ). h.0 ++ l) k.1 ∙ sym (append_assoc h.0 k.0 u)))

add_byte : (b : ℕ) (s t : List ℕ) → Ends s t → Ends (b ∷ s) t
add_byte b s t h = (b ∷ h.0, ap (λ (l : List ℕ). b ∷ l) h.1)

add_if : (v : Bool) (b : ℕ) (s t : List ℕ) → Ends s t → Ends (b ∷ s) (if v then b ∷ s else t)
add_if true b s t h = ([], refl)
add_if false b s t h = add_byte b s t h

skip_ends : (n : ℕ) (s : List ℕ) → Ends s (skip n s)
skip_ends zero [] = ([], refl)
skip_ends (suc n) [] = ([], refl)
skip_ends zero (b ∷ s) = add_if (white_width (b ∷ s) == 0) b s (skip (white_width (b ∷ s) - 1) s) (skip_ends (white_width (b ∷ s) - 1) s)
skip_ends (suc n) (b ∷ s) = add_byte b s (skip n s) (skip_ends n s)

white_ends : (s : List ℕ) → Ends s (after_white s)
white_ends s = skip_ends 0 s

longest_ends : (k : Class) (s w t : List ℕ) → IsLongest k s w t → Ends s t
longest_ends k s w t l = (w, l.whole)

-- what stands before the brace
pub before_is : (s p rest : List ℕ) → s ≡ p ++ closing ∷ rest → text_before s rest ≡ p
before_is s p rest e =
    let n : length s - length rest - 1 ≡ length p = omega (arith, ap length e, length-append p (closing ∷ rest)) in
    ap (λ (k : ℕ). take k s) n ∙ (ap (λ (l : List ℕ). take (length p) l) e ∙ take-append_seam p (closing ∷ rest))

-- ---- from the text between the braces

no_comma : comma ≡ closing → ⊥
no_comma e = omega (arith, e)

-- a comma in front stands before the brace
comma_before : (x u r : List ℕ) → comma ∷ u ≡ x ++ closing ∷ r → (y : List ℕ) × (x ≡ comma ∷ y) × (u ≡ y ++ closing ∷ r)
comma_before [] u r e = absurd (let t : comma ≡ closing = cc in no_comma t)
comma_before (b ∷ y) u r e =
    let f : comma ≡ b = cc in
    let g : u ≡ y ++ closing ∷ r = cc in
    (y, ap (λ (c : ℕ). c ∷ y) (sym f), g)

-- where the text before the brace is read, the grammar reads it alone
alone : (p name t u rest : List ℕ) (style : Option (List ℕ)) → IsNameOrNumber (p ++ closing ∷ rest) name t → after_white t ≡ comma ∷ u
    → is_simple_type (class_front Letter (after_white u)) ≡ true
    → ((x : List ℕ) → after_white (behind_run Letter (after_white u)) ≡ x ++ closing ∷ rest → IsStyleBehind x style)
    → IsSimpleText p name (class_front Letter (after_white u)) style
alone p name t u rest style i e w f =
    let e1 : behind_run Name p ++ closing ∷ rest ≡ t =
    sym (behind_before Name name_ends p rest) ∙ longest_rest Name (p ++ closing ∷ rest) name t i.bytes in
    let c = comma_before (after_white (behind_run Name p)) u rest
    (sym (sym (white_before (behind_run Name p) rest) ∙ (ap (λ (l : List ℕ). after_white l) e1 ∙ e))) in
    let white : after_white u ≡ after_white c.0 ++ closing ∷ rest = ap (λ (l : List ℕ). after_white l) c.2 ∙ white_before c.0 rest in
    let word : class_front Letter (after_white u) ≡ class_front Letter (after_white c.0) =
    ap (λ (l : List ℕ). class_front Letter l) white ∙ front_before Letter letters_end (after_white c.0) rest in
    let behind : after_white (behind_run Letter (after_white u)) ≡ after_white (behind_run Letter (after_white c.0)) ++ closing ∷ rest =
    ap (λ (l : List ℕ). after_white (behind_run Letter l)) white
    ∙ (ap (λ (l : List ℕ). after_white l) (behind_before Letter letters_end (after_white c.0) rest)
    ∙ white_before (behind_run Letter (after_white c.0)) rest) in
    let front : class_front Name p ≡ name =
    sym (front_before Name name_ends p rest) ∙ longest_run Name (p ++ closing ∷ rest) name t i.bytes in
    record {
      behind_name = behind_run Name p;
      behind_comma = c.0;
      behind_type = behind_run Letter (after_white c.0);
      named = record {
        bytes = subst (λ (l : List ℕ). IsLongest Name p l (behind_run Name p)) front (is_longest Name p);
        nonempty = i.nonempty;
        no_zeros = i.no_zeros;
      };
      comma_there = c.1;
      typed = record {
        letters = subst (λ (l : List ℕ). IsLongest Letter (after_white c.0) l (behind_run Letter (after_white c.0)))
            (sym word) (is_longest Letter (after_white c.0));
        simple = w;
      };
      styled = f (after_white (behind_run Letter (after_white c.0))) behind;
    }

-- what the grammar says of what was read
abbrev pub IsSimpleHead : List ℕ → Head → List ℕ → Type 0
IsSimpleHead argument (Plain text) rest =
    (argument ≡ text ++ closing ∷ rest) × (name : List ℕ) × (word : List ℕ) × (style : Option (List ℕ)) × IsSimpleText text name word style
IsSimpleHead argument (Choice kind name offset) rest = ⊥

-- an argument whose text is read, and its rest
read_alone : (argument name t u rest : List ℕ) (style : Option (List ℕ)) → IsNameOrNumber argument name t → after_white t ≡ comma ∷ u
    → is_simple_type (class_front Letter (after_white u)) ≡ true → Ends argument (closing ∷ rest)
    → ((x : List ℕ) → after_white (behind_run Letter (after_white u)) ≡ x ++ closing ∷ rest → IsStyleBehind x style)
    → IsSimpleHead argument (Plain (text_before argument rest)) rest
read_alone argument name t u rest style i e w k f =
    subst (λ (l : List ℕ). IsSimpleHead argument (Plain l) rest) (sym (before_is argument k.0 rest k.1)) (
      k.1,
      name,
      class_front Letter (after_white u),
      style,
      alone k.0 name t u rest style (subst (λ (l : List ℕ). IsNameOrNumber l name t) k.1 i) e w f,
    )

-- what follows the type ends the argument
type_ends : (argument name t u : List ℕ) → IsNameOrNumber argument name t → after_white t ≡ comma ∷ u
    → Ends argument (after_white (behind_run Letter (after_white u)))
type_ends argument name t u i e =
    let l = behind_run Letter (after_white u) in
    chain argument t (after_white l) (longest_ends Name argument name t i.bytes)
    (chain t (comma ∷ u) (after_white l) (subst (λ (x : List ℕ). Ends t x) e (white_ends t))
    (add_byte comma u (after_white l)
    (chain u (after_white u) (after_white l) (white_ends u)
    (chain (after_white u) l (after_white l)
    (longest_ends Letter (after_white u) (class_front Letter (after_white u)) l (is_longest Letter (after_white u))) (white_ends l)))))

no_ok : {A : Type 0} {d : Fault} {x : A} → Err d ≡ Ok x → ⊥
no_ok e = cc

abbrev ok_of : Head × List ℕ → Result (Head × List ℕ) Fault
ok_of x = Ok x

same_ok : {x y : Head × List ℕ} → ok_of x ≡ ok_of y → x ≡ y
same_ok e = cc

same_tail : (a b : ℕ) (s t : List ℕ) → a ∷ s ≡ b ∷ t → s ≡ t
same_tail a b s t e = cc

styled_step : (argument name t u v : List ℕ) (o : Option (List ℕ)) (x : Head × List ℕ) → IsNameOrNumber argument name t
    → after_white t ≡ comma ∷ u
    → is_simple_type (class_front Letter (after_white u)) ≡ true → after_white (behind_run Letter (after_white u)) ≡ comma ∷ v
    → behind_style 0 false v ≡ o → styled_front argument o ≡ Ok x → IsSimpleHead argument x.0 x.1
styled_step argument name t u v None x i e w a b k = absurd (no_ok k)
styled_step argument name t u v (Some rest) x i e w a b k =
    let s = style_sound v rest b in
    subst (λ (y : Head × List ℕ). IsSimpleHead argument y.0 y.1) (same_ok k)
    (read_alone argument name t u rest (Some s.0) i e w
    (chain argument (comma ∷ v) (closing ∷ rest) (subst (λ (l : List ℕ). Ends argument l) a (type_ends argument name t u i e))
    (add_byte comma v (closing ∷ rest) (s.0, s.2)))
    (λ y f. (append_cancel_right y (comma ∷ s.0) (closing ∷ rest) (sym f ∙ (a ∙ ap (λ (l : List ℕ). comma ∷ l) s.2)), s.1)))

comma_step : (argument name t u : List ℕ) (b : ℕ) (v : List ℕ) (c : Bool) (x : Head × List ℕ) → IsNameOrNumber argument name t
    → after_white t ≡ comma ∷ u
    → is_simple_type (class_front Letter (after_white u)) ≡ true → after_white (behind_run Letter (after_white u)) ≡ b ∷ v
    → (b == comma) ≡ c
    → (if c then styled_front argument (behind_style 0 false v) else Err (pattern_fault_at ExpectedEnd (b ∷ v))) ≡ Ok x
    → IsSimpleHead argument x.0 x.1
comma_step argument name t u b v true x i e w a h k =
    styled_step argument name t u v (behind_style 0 false v) x i e w (a ∙ ap (λ (n : ℕ). n ∷ v) (eqb-true b comma h)) refl k
comma_step argument name t u b v false x i e w a h k = absurd (no_ok k)

closing_step : (argument name t u : List ℕ) (b : ℕ) (v : List ℕ) (c : Bool) (x : Head × List ℕ) → IsNameOrNumber argument name t
    → after_white t ≡ comma ∷ u
    → is_simple_type (class_front Letter (after_white u)) ≡ true → after_white (behind_run Letter (after_white u)) ≡ b ∷ v
    → (b == closing) ≡ c
    → (if c then Ok (Plain (text_before argument v), v)
    else if b == comma then styled_front argument (behind_style 0 false v) else Err (pattern_fault_at ExpectedEnd (b ∷ v))) ≡ Ok x
    → IsSimpleHead argument x.0 x.1
closing_step argument name t u b v true x i e w a h k =
    let f : after_white (behind_run Letter (after_white u)) ≡ closing ∷ v = a ∙ ap (λ (n : ℕ). n ∷ v) (eqb-true b closing h) in
    subst (λ (y : Head × List ℕ). IsSimpleHead argument y.0 y.1) (same_ok k)
    (read_alone argument name t u v None i e w (subst (λ (l : List ℕ). Ends argument l) f (type_ends argument name t u i e))
    (λ y g. append_cancel_right y [] (closing ∷ v) (sym g ∙ f)))
closing_step argument name t u b v false x i e w a h k = comma_step argument name t u b v (b == comma) x i e w a refl k

front_step : (argument name t u s : List ℕ) (x : Head × List ℕ) → IsNameOrNumber argument name t → after_white t ≡ comma ∷ u
    → is_simple_type (class_front Letter (after_white u)) ≡ true → after_white (behind_run Letter (after_white u)) ≡ s
    → simple_front argument s ≡ Ok x
    → IsSimpleHead argument x.0 x.1
front_step argument name t u [] x i e w a k = absurd (no_ok k)
front_step argument name t u (b ∷ v) x i e w a k = closing_step argument name t u b v (b == closing) x i e w a refl k

-- what is read is in the grammar
pub simple_sound : (argument name t u : List ℕ) (x : Head × List ℕ) → IsNameOrNumber argument name t → after_white t ≡ comma ∷ u
    → is_simple_type (class_front Letter (after_white u)) ≡ true
    → simple_front argument (after_white (behind_run Letter (after_white u))) ≡ Ok x
    → IsSimpleHead argument x.0 x.1
simple_sound argument name t u x i e w k = front_step argument name t u (after_white (behind_run Letter (after_white u))) x i e w refl k

-- ---- before a brace

both_true : (a b : Bool) → (a && b) ≡ true → (a ≡ true) × (b ≡ true)
both_true true true e = (refl, refl)
both_true true false e = absurd (let t : false ≡ true = e in cc)
both_true false b e = absurd (let t : false ≡ true = e in cc)

-- no white space stands before the text
first_by : (text : List ℕ) → begins Name text ≡ true → (r : List ℕ) → after_white (text ++ closing ∷ r) ≡ text ++ closing ∷ r
first_by [] e r = absurd (let t : false ≡ true = e in cc)
first_by (b ∷ v) e r =
    ap (λ (n : Bool). if n then b ∷ (v ++ closing ∷ r) else skip (white_width (b ∷ (v ++ closing ∷ r)) - 1) (v ++ closing ∷ r))
    (both_true (is_in Name b) (white_width (b ∷ (v ++ closing ∷ r)) == 0) (name_ends (b ∷ v) r ∙ e)).1

name_begins : (text name t : List ℕ) → IsLongest Name text name t → name ≢ [] → begins Name text ≡ true
name_begins text [] t l n = absurd (n refl)
name_begins text (b ∷ w) t l n = ap (λ (s : List ℕ). begins Name s) l.whole ∙ longest_begins Name text b w t l

pub simple_first : (text name word : List ℕ) (style : Option (List ℕ)) (r : List ℕ) → IsSimpleText text name word style
    → after_white (text ++ closing ∷ r) ≡ text ++ closing ∷ r
simple_first text name word style r h = first_by text (name_begins text name h.behind_name h.named.bytes h.named.nonempty) r
