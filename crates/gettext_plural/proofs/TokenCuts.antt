-- Each text has its tokens, and only these.
use Rattle.std.proofs.Common.{◌≡◌, ◌⊎◌, ℕ, zero, suc, ◌-◌, ◌≤◌, List, [], ◌∷◌, ◌++◌, length, Bool, true, false, cond, nat_eq, refl, sym, ap, ◌∙◌, subst, inl, inr, ⊎_elim, arith, length-append}
use Rattle.gettext_plural.specs.declared.token.Token.{Token}
use Rattle.gettext_plural.specs.PluralTokens.{AreFormulaTokensOf, at_end, at_blank, at_token, PassesTokens, up_to_end, up_to_token, past_blank, past_token, Mark, alone, paired, behind_digits, front, is_blank, is_decimal_digit, is_end, mark_front, mark_of, formula_marks, literal_token, number_with}

told : (b : Bool) → (b ≡ true) ⊎ (b ≡ false)
told true = inl refl
told false = inr refl

-- ---- What follows a token is the end of what follows its first byte

abbrev IsBehind : List ℕ → List ℕ → Type 0
IsBehind s rest = (taken : List ℕ) × (s ≡ taken ++ rest)

either : (b : Bool) (s x y : List ℕ) → IsBehind s x → IsBehind s y → IsBehind s (cond b x y)
either true s x y h k = h
either false s x y h k = k

either_front : (b : Bool) (s : List ℕ) (x y : Token × List ℕ) → IsBehind s x.1 → IsBehind s y.1 → IsBehind s (cond b x y).1
either_front true s x y h k = h
either_front false s x y h k = k

digits_end : (s : List ℕ) → IsBehind s (behind_digits s)
digits_end [] = ([], refl)
digits_end (b ∷ s) =
    let h = digits_end s in
    either (is_decimal_digit b) (b ∷ s) (behind_digits s) (b ∷ s) (b ∷ h.0, ap (λ x. b ∷ x) h.1) ([], refl)

mark_ends : (m : Mark) (s : List ℕ) → IsBehind s (mark_front m s).1
mark_ends (alone t) s = ([], refl)
mark_ends (paired c long short) [] = ([], refl)
mark_ends (paired c long short) (b ∷ s) = either_front (nat_eq b c) (b ∷ s) (long, s) (short, b ∷ s) (b ∷ [], refl) ([], refl)

front_ends : (b : ℕ) (s : List ℕ) → IsBehind s (front b s).1
front_ends b s =
    either_front (is_decimal_digit b) s (literal_token (number_with (b - 48) s), behind_digits s) (mark_front (mark_of b formula_marks) s)
    (digits_end s) (mark_ends (mark_of b formula_marks) s)

-- ---- There are tokens

tokens_within : (n : ℕ) (s : List ℕ) → length s ≤ n → (ts : List Token) × AreFormulaTokensOf s ts
tokens_within n [] le = ([], at_end [] refl)
tokens_within zero (b ∷ s) le = absurd (omega arith)
tokens_within (suc n) (b ∷ s) le =
    let rest : (ts : List Token) × AreFormulaTokensOf s ts = tokens_within n s (omega arith) in
    let h = front_ends b s in
    let shorter : length (front b s).1 ≤ n = omega (arith, ap length h.1, length-append h.0 (front b s).1) in
    let more : (ts : List Token) × AreFormulaTokensOf (front b s).1 ts = tokens_within n (front b s).1 shorter in
    ⊎_elim
    (λ is_last. ([], at_end (b ∷ s) is_last))
    (λ not_last.
    ⊎_elim (λ white. (rest.0, at_blank b s rest.0 not_last white rest.1))
    (λ black. ((front b s).0 ∷ more.0, at_token b s more.0 not_last black more.1)) (told (is_blank b)))
    (told (is_end (b ∷ s)))

pub tokens_exist : (s : List ℕ) → (ts : List Token) × AreFormulaTokensOf s ts
tokens_exist s = tokens_within (length s) s (omega arith)

-- ---- There are no others

no_tokens : (s : List ℕ) (ts : List Token) → is_end s ≡ true → AreFormulaTokensOf s ts → ts ≡ []
no_tokens s ts is_last (at_end r e) = refl
no_tokens s ts is_last (at_blank b r us e white more) = absurd cc
no_tokens s ts is_last (at_token b r us e black more) = absurd cc

behind_blank : (b : ℕ) (s x : List ℕ) (ts : List Token) → x ≡ b ∷ s → is_end (b ∷ s) ≡ false → is_blank b ≡ true → AreFormulaTokensOf x ts
    → AreFormulaTokensOf s ts
behind_blank b s x ts is not_last white (at_end r e) = let same = ap is_end is in absurd cc
behind_blank b s x ts is not_last white (at_blank a r us e w more) =
    let same : r ≡ s = cc in
    let P : List ℕ → Type 0 = λ y. AreFormulaTokensOf y us in
    subst P same more
behind_blank b s x ts is not_last white (at_token a r us e black more) =
    let same : a ≡ b = cc in
    let clash = ap is_blank same in
    absurd cc

record FirstOf (b : ℕ) (s : List ℕ) (ts : List Token) : Type 0 where
  rest : List Token
  is : ts ≡ (front b s).0 ∷ rest
  there : AreFormulaTokensOf (front b s).1 rest

first_token : (b : ℕ) (s x : List ℕ) (ts : List Token) → x ≡ b ∷ s → is_end (b ∷ s) ≡ false → is_blank b ≡ false → AreFormulaTokensOf x ts
    → FirstOf b s ts
first_token b s x ts is not_last black (at_end r e) = let same = ap is_end is in absurd cc
first_token b s x ts is not_last black (at_blank a r us e white more) =
    let same : a ≡ b = cc in
    let clash = ap is_blank same in
    absurd cc
first_token b s x ts is not_last black (at_token a r us e w more) =
    let first : a ≡ b = cc in
    let second : r ≡ s = cc in
    let both : front a r ≡ front b s = ap (λ y. front y r) first ∙ ap (front b) second in
    let P : List ℕ → Type 0 = λ y. AreFormulaTokensOf y us in
    record { rest = us; is = ap (λ it. it.0 ∷ us) both; there = subst P (ap (λ it. it.1) both) more }

pub one_cut : (s : List ℕ) (ts us : List Token) → AreFormulaTokensOf s ts → AreFormulaTokensOf s us → ts ≡ us
one_cut s ts us (at_end r is_last) k = sym (no_tokens r us is_last k)
one_cut s ts us (at_blank b r vs not_last white more) k = one_cut r vs us more (behind_blank b r (b ∷ r) us refl not_last white k)
one_cut s ts us (at_token b r vs not_last black more) k =
    let f = first_token b r (b ∷ r) us refl not_last black k in
    ap (λ x. (front b r).0 ∷ x) (one_cut (front b r).1 vs f.rest more f.there) ∙ sym f.is

-- ---- The first tokens, and what follows them

-- the tokens of what follows come behind them
pub passed_cut : (s : List ℕ) (ts : List Token) (rest : List ℕ) (more : List Token) → PassesTokens s ts rest → AreFormulaTokensOf rest more
    → AreFormulaTokensOf s (ts ++ more)
passed_cut s ts rest more (up_to_end r is_last) k = k
passed_cut s ts rest more (up_to_token b r not_last black) k = k
passed_cut s ts rest more (past_blank b r x us not_last white p) k = at_blank b r (us ++ more) not_last white (passed_cut r us x more p k)
passed_cut s ts rest more (past_token b r x us not_last black p) k =
    at_token b r (us ++ more) not_last black (passed_cut (front b r).1 us x more p k)

-- the first of all tokens are passed
pub record PassedTo (s : List ℕ) (before more : List Token) : Type 0 where
  pub rest : List ℕ
  pub passed : PassesTokens s before rest
  pub there : AreFormulaTokensOf rest more

blanks_passed : (s : List ℕ) (more : List Token) → AreFormulaTokensOf s more → PassedTo s [] more
blanks_passed s more (at_end r is_last) = record { rest = r; passed = up_to_end r is_last; there = at_end r is_last }
blanks_passed s more (at_blank b r us not_last white k) =
    let h = blanks_passed r us k in
    record { rest = h.rest; passed = past_blank b r h.rest [] not_last white h.passed; there = h.there }
blanks_passed s more (at_token b r us not_last black k) =
    record { rest = b ∷ r; passed = up_to_token b r not_last black; there = at_token b r us not_last black k }

pub passed_to : (s : List ℕ) (all before more : List Token) → AreFormulaTokensOf s all → all ≡ before ++ more → PassedTo s before more
passed_to s all [] more k is =
    let P : List Token → Type 0 = λ ts. AreFormulaTokensOf s ts in
    blanks_passed s more (subst P is k)
passed_to s all (t ∷ before) more (at_end r is_last) is = absurd cc
passed_to s all (t ∷ before) more (at_blank b r us not_last white k) is =
    let h = passed_to r us (t ∷ before) more k is in
    record { rest = h.rest; passed = past_blank b r h.rest (t ∷ before) not_last white h.passed; there = h.there }
passed_to s all (t ∷ before) more (at_token b r us not_last black k) is =
    let first : (front b r).0 ≡ t = cc in
    let tail : us ≡ before ++ more = cc in
    let h = passed_to (front b r).1 us before more k tail in
    let P : Token → Type 0 = λ x. PassesTokens (b ∷ r) (x ∷ before) h.rest in
    record { rest = h.rest; passed = subst P first (past_token b r h.rest before not_last black h.passed); there = h.there }

-- ---- One text follows them

-- no tokens are passed where no blank is
none_passed : (s : List ℕ) (ts : List Token) (rest : List ℕ) → ts ≡ []
    → ((b : ℕ) (r : List ℕ) → s ≡ b ∷ r → is_end (b ∷ r) ≡ false → is_blank b ≡ true → ⊥) → PassesTokens s ts rest → rest ≡ s
none_passed s ts rest none stays (up_to_end r is_last) = refl
none_passed s ts rest none stays (up_to_token b r not_last black) = refl
none_passed s ts rest none stays (past_blank b r x us not_last white p) = absurd (stays b r refl not_last white)
none_passed s ts rest none stays (past_token b r x us not_last black p) = absurd cc

behind_one_blank : (b : ℕ) (s x : List ℕ) (ts : List Token) (rest : List ℕ) → x ≡ b ∷ s → is_end (b ∷ s) ≡ false → is_blank b ≡ true
    → PassesTokens x ts rest → PassesTokens s ts rest
behind_one_blank b s x ts rest is not_last white (up_to_end r e) = let same = ap is_end is in absurd cc
behind_one_blank b s x ts rest is not_last white (up_to_token a r e black) =
    let same : a ≡ b = cc in
    let clash = ap is_blank same in
    absurd cc
behind_one_blank b s x ts rest is not_last white (past_blank a r y us e w p) =
    let same : r ≡ s = cc in
    let P : List ℕ → Type 0 = λ z. PassesTokens z us y in
    subst P same p
behind_one_blank b s x ts rest is not_last white (past_token a r y us e black p) =
    let same : a ≡ b = cc in
    let clash = ap is_blank same in
    absurd cc

behind_one_token : (b : ℕ) (s x : List ℕ) (ts us : List Token) (rest : List ℕ) → x ≡ b ∷ s → ts ≡ (front b s).0 ∷ us
    → is_end (b ∷ s) ≡ false → is_blank b ≡ false → PassesTokens x ts rest → PassesTokens (front b s).1 us rest
behind_one_token b s x ts us rest is first not_last black (up_to_end r e) = absurd cc
behind_one_token b s x ts us rest is first not_last black (up_to_token a r e w) = absurd cc
behind_one_token b s x ts us rest is first not_last black (past_blank a r y vs e white p) =
    let same : a ≡ b = cc in
    let clash = ap is_blank same in
    absurd cc
behind_one_token b s x ts us rest is first not_last black (past_token a r y vs e w p) =
    let one : a ≡ b = cc in
    let two : r ≡ s = cc in
    let tail : vs ≡ us = cc in
    let both : front a r ≡ front b s = ap (λ z. front z r) one ∙ ap (front b) two in
    let P : List ℕ → Type 0 = λ z. PassesTokens z us y in
    let Q : List Token → Type 0 = λ z. PassesTokens (front a r).1 z y in
    subst P (ap (λ it. it.1) both) (subst Q tail p)

pub one_rest : (s : List ℕ) (ts : List Token) (x y : List ℕ) → PassesTokens s ts x → PassesTokens s ts y → x ≡ y
one_rest s ts x y (up_to_end r is_last) q =
    sym (none_passed r [] y refl (λ b t is not_last white. (let same = ap is_end is in cc)) q)
one_rest s ts x y (up_to_token b r not_last black) q =
    sym (none_passed (b ∷ r) [] y refl (λ a t is e white. (let same : b ≡ a = cc in let clash = ap is_blank same in cc)) q)
one_rest s ts x y (past_blank b r z us not_last white p) q =
    one_rest r us z y p (behind_one_blank b r (b ∷ r) us y refl not_last white q)
one_rest s ts x y (past_token b r z us not_last black p) q =
    one_rest (front b r).1 us z y p (behind_one_token b r (b ∷ r) ((front b r).0 ∷ us) us y refl refl not_last black q)
