-- How the expression of a `Plural-Forms` is cut into tokens, as C does: from the left, each as long
-- as it can be. It ends with the text, at `;` or at a line feed.
--     AreFormulaTokensOf text tokens
--     PassesTokens text tokens rest
use Rattle.std.specs.Prelude.{◌≡◌, ℕ, ◌+◌, ◌*◌, ◌-◌, List, [], ◌∷◌, Bool, true, false, ◌&&◌, ◌||◌, cond, nat_eq, nat_le}
use Rattle.std.specs.Str.{byte}
use Rattle.gettext_plural.specs.declared.token.Operator.TheVariants.{Or, And, Equal, Unequal, Below, Above, AtMost, AtLeast, Plus, Minus, Times, Over, Remainder}
use Rattle.gettext_plural.specs.declared.token.Token.{Token}
use Rattle.gettext_plural.specs.declared.token.Token.TheVariants.{Number, N, Not, Joint, Question, Colon, Open, Close, Junk}

-- ---- Bytes

-- a space or a tab
abbrev pub is_blank : ℕ → Bool
is_blank b = nat_eq b 32 || nat_eq b 9

-- what follows the blanks at the front
abbrev pub after_blanks : List ℕ → List ℕ
after_blanks [] = []
after_blanks (b ∷ s) = cond (is_blank b) (after_blanks s) (b ∷ s)

abbrev pub is_decimal_digit : ℕ → Bool
is_decimal_digit b = nat_le 48 b && nat_le b 57

-- the number whose digits so far are those of n, and which goes on with the digits at the front
abbrev pub number_with : ℕ → List ℕ → ℕ
number_with n [] = n
number_with n (b ∷ s) = cond (is_decimal_digit b) (number_with (n * 10 + (b - 48)) s) n

-- what follows the digits at the front
abbrev pub behind_digits : List ℕ → List ℕ
behind_digits [] = []
behind_digits (b ∷ s) = cond (is_decimal_digit b) (behind_digits s) (b ∷ s)

-- the expression ends here
abbrev pub is_end : List ℕ → Bool
is_end [] = true
is_end (b ∷ s) = nat_eq b 59 || nat_eq b 10

-- ---- Tokens

-- the largest number that a token has
abbrev pub max_literal : ℕ
max_literal = 4294967295

abbrev pub literal_token : ℕ → Token
literal_token n = cond (nat_le n max_literal) (Number n) Junk

-- what begins with a byte: a token, or one of two, the first if a further byte follows
pub data Mark : Type 0 where
  alone : Token → Mark
  paired : ℕ → Token → Token → Mark

abbrev pub formula_marks : List (ℕ × Mark)
formula_marks =
    (byte "n", alone N) ∷ (byte "?", alone Question) ∷ (byte ":", alone Colon) ∷ (byte "(", alone Open) ∷ (byte ")", alone Close)
    ∷ (byte "+", alone (Joint Plus)) ∷ (byte "-", alone (Joint Minus)) ∷ (byte "*", alone (Joint Times)) ∷ (byte "/", alone (Joint Over))
    ∷ (byte "%", alone (Joint Remainder)) ∷ (byte "!", paired (byte "=") (Joint Unequal) Not) ∷ (byte "=", paired (byte "=") (Joint Equal) Junk)
    ∷ (byte "<", paired (byte "=") (Joint AtMost) (Joint Below)) ∷ (byte ">", paired (byte "=") (Joint AtLeast) (Joint Above))
    ∷ (byte "&", paired (byte "&") (Joint And) Junk) ∷ (byte "|", paired (byte "|") (Joint Or) Junk) ∷ []

-- what a byte begins: what isn't in the table is Junk, which no expression has
abbrev pub mark_of : ℕ → List (ℕ × Mark) → Mark
mark_of b [] = alone Junk
mark_of b (m ∷ ms) = cond (nat_eq b m.0) m.1 (mark_of b ms)

-- the token, and what follows it
abbrev pub mark_front : Mark → List ℕ → Token × List ℕ
mark_front (alone t) s = (t, s)
mark_front (paired c long short) [] = (short, [])
mark_front (paired c long short) (b ∷ s) = cond (nat_eq b c) (long, s) (short, b ∷ s)

-- the token that begins with b, before s, and what follows it
abbrev pub front : ℕ → List ℕ → Token × List ℕ
front b s = cond (is_decimal_digit b) (literal_token (number_with (b - 48) s), behind_digits s) (mark_front (mark_of b formula_marks) s)

-- ---- A text

-- the text is cut into these tokens, with blanks between them
pub data AreFormulaTokensOf : List ℕ → List Token → Type 0 where
  at_end : (s : List ℕ) → is_end s ≡ true → AreFormulaTokensOf s []
  at_blank : (b : ℕ) (s : List ℕ) (ts : List Token) → is_end (b ∷ s) ≡ false → is_blank b ≡ true → AreFormulaTokensOf s ts → AreFormulaTokensOf (b ∷ s) ts
  at_token : (b : ℕ) (s : List ℕ) (ts : List Token) → is_end (b ∷ s) ≡ false → is_blank b ≡ false → AreFormulaTokensOf (front b s).1 ts
      → AreFormulaTokensOf (b ∷ s) ((front b s).0 ∷ ts)

-- these are the first tokens of the text, and this follows, from the next token or the end on
pub data PassesTokens : List ℕ → List Token → List ℕ → Type 0 where
  up_to_end : (s : List ℕ) → is_end s ≡ true → PassesTokens s [] s
  up_to_token : (b : ℕ) (s : List ℕ) → is_end (b ∷ s) ≡ false → is_blank b ≡ false → PassesTokens (b ∷ s) [] (b ∷ s)
  past_blank : (b : ℕ) (s rest : List ℕ) (ts : List Token) → is_end (b ∷ s) ≡ false → is_blank b ≡ true → PassesTokens s ts rest
      → PassesTokens (b ∷ s) ts rest
  past_token : (b : ℕ) (s rest : List ℕ) (ts : List Token) → is_end (b ∷ s) ≡ false → is_blank b ≡ false
      → PassesTokens (front b s).1 ts rest → PassesTokens (b ∷ s) ((front b s).0 ∷ ts) rest
