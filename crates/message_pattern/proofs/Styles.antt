-- Where a style ends.
use Rattle.std.proofs.Common.{◌≡◌, arith, ◌+◌, ◌-◌, ◌==◌, ℕ, zero, suc, List, [], ◌∷◌, ◌++◌, Bool, true, false, not, ◌&&◌, ◌||◌, Option, Some, None, refl, sym, ap, subst, ◌∙◌, append_assoc, if◌then◌else◌}
use Rattle.std.proofs.lemmas.Bool.{eqb-true}
use Rattle.std.proofs.Math.Dec.{eqb-suc-zero}
use Rattle.pattern_bytes.specs.PatternBytes.{apostrophe, opening, closing}
use Rattle.message_pattern.specs.PatternStyles.{is_style_byte, has_no_apostrophe, IsStyle, ends, byte, quoted, nested, behind_style}

-- what follows a step
abbrev after_step : List ℕ → Option (ℕ × Bool) → Option (List ℕ)
after_step s o = elim o as (λ _. Option (List ℕ)) [
  | None ↦ Some s
  | Some next ↦ behind_style next.0 next.1 s
]

-- ---- a style is passed

abbrev stepped : ℕ → Bool → Bool → Bool → Option (ℕ × Bool)
stepped n v o c =
    if v then Some (n, true)
    else if o then Some (n + 1, false)
    else if not c then Some (n, false)
    else if n == 0 then None
    else Some (n - 1, false)

plain_by : (n : ℕ) (v o c : Bool) → not (v || o || c) ≡ true → stepped n v o c ≡ Some (n, false)
plain_by n true o c e = absurd (let t : false ≡ true = e in cc)
plain_by n false true c e = absurd (let t : false ≡ true = e in cc)
plain_by n false false true e = absurd (let t : false ≡ true = e in cc)
plain_by n false false false e = refl

both_true : (a b : Bool) → (a && b) ≡ true → (a ≡ true) × (b ≡ true)
both_true true true e = (refl, refl)
both_true true false e = absurd (let t : false ≡ true = e in cc)
both_true false b e = absurd (let t : false ≡ true = e in cc)

quote_passed : (n : ℕ) (q s : List ℕ) → has_no_apostrophe q ≡ true → behind_style n true (q ++ apostrophe ∷ s) ≡ behind_style n false s
quote_passed n [] s e = refl
quote_passed n (b ∷ q) s e =
    let h = both_true (not (b == apostrophe)) (has_no_apostrophe q) e in
    ap (λ (v : Bool). behind_style n v (q ++ apostrophe ∷ s)) h.0 ∙ quote_passed n q s h.1

one_more : (n : ℕ) → n + 1 ≡ suc n
one_more n = omega arith

not_zero : (n : ℕ) → (n + 1 == 0) ≡ false
not_zero n = ap (λ (m : ℕ). m == 0) (one_more n) ∙ eqb-suc-zero n

one_less : (n : ℕ) → n + 1 - 1 ≡ n
one_less n = omega arith

-- a brace closes the one before it
closes : (n : ℕ) (s : List ℕ) → behind_style (n + 1) false (closing ∷ s) ≡ behind_style n false s
closes n s =
    ap (λ (v : Bool). after_step s (if v then None else Some (n + 1 - 1, false))) (not_zero n)
    ∙ ap (λ (m : ℕ). behind_style m false s) (one_less n)

passed : {t : List ℕ} → IsStyle t → (n : ℕ) (z : List ℕ) → behind_style n false (t ++ z) ≡ behind_style n false z
passed ends n z = refl
passed (byte b s e h) n z =
    ap (λ (o : Option (ℕ × Bool)). after_step (s ++ z) o) (plain_by n (b == apostrophe) (b == opening) (b == closing) e) ∙ passed h n z
passed (quoted q s e h) n z =
    ap (λ (u : List ℕ). behind_style n true u) (append_assoc q (apostrophe ∷ s) z) ∙ (quote_passed n q (s ++ z) e ∙ passed h n z)
passed (nested inner s h k) n z =
    ap (λ (u : List ℕ). behind_style (n + 1) false u) (append_assoc inner (closing ∷ s) z)
    ∙ (passed h (n + 1) (closing ∷ (s ++ z)) ∙ (closes n (s ++ z) ∙ passed k n z))

-- behind a style and its brace is the rest
pub style_complete : {t : List ℕ} (rest : List ℕ) → IsStyle t → behind_style 0 false (t ++ closing ∷ rest) ≡ Some rest
style_complete rest h = passed h 0 (closing ∷ rest)

-- ---- what is passed is a style

-- n styles and their braces, then a style, and the brace that the rest follows
abbrev Closes : ℕ → List ℕ → List ℕ → Type 0
Closes zero s rest = (t : List ℕ) × IsStyle t × (s ≡ t ++ closing ∷ rest)
Closes (suc n) s rest = (t : List ℕ) × (u : List ℕ) × IsStyle t × (s ≡ t ++ closing ∷ u) × Closes n u rest

-- likewise, in quoted text
abbrev ClosesBehind : ℕ → Bool → List ℕ → List ℕ → Type 0
ClosesBehind n false s rest = Closes n s rest
ClosesBehind n true s rest = (q : List ℕ) × (u : List ℕ) × (has_no_apostrophe q ≡ true) × (s ≡ q ++ apostrophe ∷ u) × Closes n u rest

-- a front that a style may have
longer : (n : ℕ) (x s u rest : List ℕ) → ((t : List ℕ) → IsStyle t → IsStyle (x ++ t)) → s ≡ x ++ u → Closes n u rest → Closes n s rest
longer zero x s u rest f e h = (x ++ h.0, f h.0 h.1, e ∙ (ap (λ (l : List ℕ). x ++ l) h.2 ∙ sym (append_assoc x h.0 (closing ∷ rest))))
longer (suc n) x s u rest f e h =
    (x ++ h.0, h.1, f h.0 h.2, e ∙ (ap (λ (l : List ℕ). x ++ l) h.3 ∙ sym (append_assoc x h.0 (closing ∷ h.1))), h.4)

quote_front : (q : List ℕ) → has_no_apostrophe q ≡ true → (t : List ℕ) → IsStyle t → IsStyle ((apostrophe ∷ (q ++ apostrophe ∷ [])) ++ t)
quote_front q e t h = subst (λ (l : List ℕ). IsStyle (apostrophe ∷ l)) (sym (append_assoc q (apostrophe ∷ []) t)) (quoted q t e h)

brace_front : (inner : List ℕ) → IsStyle inner → (t : List ℕ) → IsStyle t → IsStyle ((opening ∷ (inner ++ closing ∷ [])) ++ t)
brace_front inner h t k = subst (λ (l : List ℕ). IsStyle (opening ∷ l)) (sym (append_assoc inner (closing ∷ []) t)) (nested inner t h k)

some_is : (s t : List ℕ) → Some s ≡ Some t → s ≡ t
some_is s t e = cc

no_some : (t : List ℕ) → None ≡ Some t → ⊥
no_some t e = cc

closed : (n : ℕ) (b : ℕ) (s rest : List ℕ) → ((m : ℕ) → behind_style m false s ≡ Some rest → Closes m s rest) → b ≡ closing
    → after_step s (stepped n false false true) ≡ Some rest → Closes n (b ∷ s) rest
closed zero b s rest again e h = ([], ends, ap (λ (c : ℕ). c ∷ s) e ∙ ap (λ (l : List ℕ). closing ∷ l) (some_is s rest h))
closed (suc n) b s rest again e h =
    let f : behind_style (suc n - 1) false s ≡ Some rest =
    subst (λ (v : Bool). after_step s (if v then None else Some (suc n - 1, false)) ≡ Some rest) (eqb-suc-zero n) h in
    ([], s, ends, ap (λ (c : ℕ). c ∷ s) e, again n (subst (λ (m : ℕ). behind_style m false s ≡ Some rest) (omega arith) f))

no_marks : (b : ℕ) → (b == apostrophe) ≡ false → (b == opening) ≡ false → (b == closing) ≡ false → is_style_byte b ≡ true
no_marks b e f g = rw (e, f, g)

plain_next : (n : ℕ) (b : ℕ) (s rest : List ℕ) → ((m : ℕ) (q : Bool) → behind_style m q s ≡ Some rest → ClosesBehind m q s rest)
    → (v o c : Bool) → (b == apostrophe) ≡ v → (b == opening) ≡ o → (b == closing) ≡ c → after_step s (stepped n v o c) ≡ Some rest
    → Closes n (b ∷ s) rest
plain_next n b s rest again true o c e f g h =
    let k : ClosesBehind n true s rest = again n true h in
    longer n (apostrophe ∷ (k.0 ++ apostrophe ∷ [])) (b ∷ s) k.1 rest (quote_front k.0 k.2)
    (ap (λ (x : ℕ). x ∷ s) (eqb-true b apostrophe e)
    ∙ ap (λ (l : List ℕ). apostrophe ∷ l) (k.3 ∙ sym (append_assoc k.0 (apostrophe ∷ []) k.1))) k.4
plain_next n b s rest again false true c e f g h =
    let k : Closes (suc n) s rest = subst (λ (m : ℕ). Closes m s rest) (one_more n) (again (n + 1) false h) in
    longer n (opening ∷ (k.0 ++ closing ∷ [])) (b ∷ s) k.1 rest (brace_front k.0 k.2)
    (ap (λ (x : ℕ). x ∷ s) (eqb-true b opening f) ∙ ap (λ (l : List ℕ). opening ∷ l) (k.3 ∙ sym (append_assoc k.0 (closing ∷ []) k.1))) k.4
plain_next n b s rest again false false false e f g h =
    longer n (b ∷ []) (b ∷ s) s rest (λ t k. byte b t (no_marks b e f g) k) refl (again n false h)
plain_next n b s rest again false false true e f g h = closed n b s rest (λ m k. again m false k) (eqb-true b closing g) h

quoted_next : (n : ℕ) (b : ℕ) (s rest : List ℕ) (v : Bool) → (b == apostrophe) ≡ v → ClosesBehind n (not v) s rest
    → ClosesBehind n true (b ∷ s) rest
quoted_next n b s rest true e h = ([], s, refl, ap (λ (x : ℕ). x ∷ s) (eqb-true b apostrophe e), h)
quoted_next n b s rest false e h =
    (b ∷ h.0, h.1, ap (λ (v : Bool). not v && has_no_apostrophe h.0) e ∙ h.2, ap (λ (l : List ℕ). b ∷ l) h.3, h.4)

found : (n : ℕ) (q : Bool) (s rest : List ℕ) → behind_style n q s ≡ Some rest → ClosesBehind n q s rest
found n q [] rest h = absurd (no_some rest h)
found n true (b ∷ s) rest h = quoted_next n b s rest (b == apostrophe) refl (found n (not (b == apostrophe)) s rest h)
found n false (b ∷ s) rest h =
    plain_next n b s rest (λ m q k. found m q s rest k) (b == apostrophe) (b == opening) (b == closing) refl refl refl h

-- a style and its brace stand before what follows them
pub style_sound : (s rest : List ℕ) → behind_style 0 false s ≡ Some rest → (t : List ℕ) × IsStyle t × (s ≡ t ++ closing ∷ rest)
style_sound s rest h = found 0 false s rest h
