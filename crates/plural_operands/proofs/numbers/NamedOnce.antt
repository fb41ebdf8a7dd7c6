-- A text names one list of operands at most.
use Rattle.std.proofs.Common.{◌≡◌, ◌⊎◌, ℕ, suc, inl, inr, List, [], ◌∷◌, ◌++◌, sym, ◌∙◌, ap, subst, length, arith}
use Rattle.fixed_decimal.specs.Digits.{value_of}
use Rattle.plural_operands.specs.Operands.{Operands, HasFraction}
use Rattle.plural_operands.specs.OperandText.{WritesCount, WritesFraction, WritesExponent, WritesUnsignedOperands}
use Rattle.plural_operands.specs.Inner.OperandReader.{HasCount, HasWord, WritesBehindPoint, without_sign}
use Rattle.plural_operands.specs.OperandLaws.{OneNamed}
use Rattle.plural_operands.proofs.numbers.Fractions.{one_fraction}
use Rattle.plural_operands.proofs.numbers.OperandLawsProved.{one_record}
use Rattle.plural_operands.proofs.numbers.OperandTexts.{other_head, same_tail, one_word}
use Rattle.plural_operands.proofs.numbers.OperandTexts.{one_count, ending_count, exponent_begins}
use Rattle.plural_operands.proofs.numbers.OperandTexts.{count_of_unsigned, unsigned_behind, named_unsigned}

-- a text counts one number, and names one exponent
one_number : (text : List ℕ) (m n : ℕ) → WritesCount text m → WritesCount text n → m ≡ n
one_number text m n h k = let same : (m ≡ n) × ([] ≡ []) =
    one_count text m [] n [] (ending_count text m h) (ending_count text n k) in same.0

-- The empty text doesn't begin with a byte.
none_and_some : (text more : List ℕ) (b : ℕ) → text ≡ [] → text ≡ b ∷ more → ⊥
none_and_some text more b e f = let z : 0 ≡ suc (length more) = ap length (sym e ∙ f) in omega (arith, z)

-- A text names one exponent.
one_exponent : (text : List ℕ) (c d : ℕ) → WritesExponent text c → WritesExponent text d → c ≡ d
one_exponent text c d (inl h) (inl k) = h.1 ∙ sym k.1
one_exponent text c d (inl h) (inr (more, k, f)) = absurd (none_and_some text more 101 h.0 f)
one_exponent text c d (inr (more, h, e)) (inl k) = absurd (none_and_some text more 101 k.0 e)
one_exponent text c d (inr (more, h, e)) (inr (rest, k, f)) =
    one_number rest c d (subst (λ (l : List ℕ). WritesCount l c) (same_tail 101 101 more rest (sym e ∙ f)) h) k

-- ---- the same parts name the same operands

-- The same digits and exponent after a point name the same operands.
one_behind_point : (i : ℕ) (text : List ℕ) (x y : Operands) → WritesBehindPoint i text x → WritesBehindPoint i text y → x ≡ y
one_behind_point i text x y (xs, r, same, w, f, p, e) (ys, s, other, u, g, q, k) =
    let word : HasWord text xs r = record { word = w; spelled = e; whole = exponent_begins r x.c p } in
    let second : HasWord text ys s = record { word = u; spelled = k; whole = exponent_begins s y.c q } in
    let parts : (xs ≡ ys) × (r ≡ s) = one_word text xs r ys s word second in
    one_record x y
    (same ∙ sym other)
    (one_fraction x y (length ys) (value_of ys) (subst (λ (l : List ℕ). HasFraction x (length l) (value_of l)) parts.0 f) g)
    (one_exponent s x.c y.c (subst (λ (l : List ℕ). WritesExponent l x.c) parts.1 p) q)

-- an exponent doesn't begin with a point
no_point : (rest more : List ℕ) (c : ℕ) → rest ≡ 46 ∷ more → WritesExponent rest c → ⊥
no_point rest more c e (inl h) = none_and_some rest more 46 h.0 e
no_point rest more c e (inr (others, h, k)) = let b : 46 ≡ 101 = other_head 46 101 more others (sym e ∙ k) in omega (arith, b)

-- without a point, or after one
one_behind : (i : ℕ) (rest : List ℕ) (x y : Operands)
    → ((more : List ℕ) × (rest ≡ 46 ∷ more) × WritesBehindPoint i more x) ⊎ (WritesExponent rest x.c × HasFraction x 0 0 × (x.i ≡ i))
    → ((more : List ℕ) × (rest ≡ 46 ∷ more) × WritesBehindPoint i more y) ⊎ (WritesExponent rest y.c × HasFraction y 0 0 × (y.i ≡ i))
    → x ≡ y
one_behind i rest x y (inl (more, e, h)) (inl (others, k, g)) =
    one_behind_point i others x y (subst (λ (l : List ℕ). WritesBehindPoint i l x) (same_tail 46 46 more others (sym e ∙ k)) h) g
one_behind i rest x y (inl (more, e, h)) (inr (p, g, k)) = absurd (no_point rest more y.c e p)
one_behind i rest x y (inr (p, f, h)) (inl (more, e, k)) = absurd (no_point rest more x.c e p)
one_behind i rest x y (inr (p, f, h)) (inr (q, g, k)) =
    one_record x y (h ∙ sym k) (one_fraction x y 0 0 f g) (one_exponent rest x.c y.c p q)

-- Without a sign, a text names one list of operands, by its count and the rest after it.
one_unsigned : (text : List ℕ) (x y : Operands) → WritesUnsignedOperands text x → WritesUnsignedOperands text y → x ≡ y
one_unsigned text x y h k =
    let parts : (fraction exponent : List ℕ) × HasCount text x.i (fraction ++ exponent) × WritesFraction fraction x
    × WritesExponent exponent x.c
    = count_of_unsigned text x h in
    let rest : List ℕ = parts.0 ++ parts.1 in
    one_behind x.i rest x y (unsigned_behind text x.i rest x parts.2 h) (unsigned_behind text x.i rest y parts.2 k)

-- With a `-` or without, a text names one list of operands.
pub one_named : OneNamed
one_named text x y h k = one_unsigned (without_sign 45 text) x y (named_unsigned text x h) (named_unsigned text y k)
