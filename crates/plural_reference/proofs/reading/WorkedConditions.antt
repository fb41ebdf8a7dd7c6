-- Worked rows of conditions and tokens: what is read, which fault there is, and what is not read.
use Rattle.std.proofs.Common.{◌≡◌, ℕ, List, [], ◌∷◌, Some, None, Ok, Err, refl, sym, ◌∙◌, subst, inr, lit<, arith}
use Rattle.std.specs.Prelude.{codes}
use Rattle.plural_reference.specs.declared.ast.Condition.{Condition}
use Rattle.plural_reference.specs.declared.ast.Relation.{Relation}
use Rattle.plural_reference.specs.declared.ast.RangeListItem.{RangeListItem}
use Rattle.plural_reference.specs.declared.ast.RangeListItem.TheVariants as items
use Rattle.plural_operands.specs.declared.operand.Operand as operand
use Rattle.plural_operands.specs.declared.operand.Operand.TheVariants as operands
use Rattle.plural_reference.specs.declared.ast.Operator as operator
use Rattle.plural_reference.specs.declared.ast.Operator.TheVariants as operators
use Rattle.plural_reference.specs.declared.ast.Value.{Value}
use Rattle.plural_reference.specs.declared.error.ParseError.{ParseError}
use Rattle.plural_reference.specs.declared.error.ParseError.TheVariants.{ExpectedAndCondition, ExpectedRelation, ExpectedOperator}
use Rattle.plural_reference.specs.declared.error.ParseError.TheVariants.{ExpectedOperand, ExpectedValue}
use Rattle.plural_reference.specs.declared.token.Token.{Token}
use Rattle.plural_reference.specs.declared.token.Token.TheVariants.{Operand, Operator, Number, Dot, DotDot, And, Junk, At}
use Rattle.plural_reference.specs.Lexer.{AreTokensOf, broken, TextReads, TextFaulty}
use Rattle.plural_reference.specs.Parser.{Reads, Faulty, after_and}
use Rattle.std.specs.Fmt.{digits}
use Rattle.plural_reference.specs.Serializer.{condition_text}
use Rattle.plural_reference.specs.Inner.Scan.{tokens_of, tokens_from}
use Rattle.plural_reference.specs.Inner.Reader.{run, begin}
use Rattle.plural_reference.proofs.tokens.ScanSound.{has_tokens, tokens_are}
use Rattle.plural_reference.proofs.reading.ReaderSound.{said, Said}
use Rattle.plural_reference.proofs.reading.Readings.{not_both}
use Rattle.plural_reference.proofs.reading.PlacedFaults.{placed_fault}

abbrev value : ℕ → Value
value n = record { 0 = n }

-- equal lists begin with the same element
heads : (a b : ℕ) (xs ys : List ℕ) → a ∷ xs ≡ b ∷ ys → a ≡ b
heads a b xs ys e = cc

-- one relation, without a modulus
abbrev relation : operand.Operand → operator.Operator → List RangeListItem → Relation
relation o op xs = record { expression = record { operand = o; modulus = None }; operator = op; range_list = record { 0 = xs } }

-- a condition of one relation
abbrev only : Relation → Condition
only r = record { 0 = record { 0 = r ∷ [] } ∷ [] }

-- ---- tokens

-- a keyword that breaks off is one token with the byte that doesn't fit
ax_is_junk : AreTokensOf (codes "ax") (Junk ∷ [])
unfolding tokens_from
ax_is_junk = has_tokens (codes "ax")

-- and a piece begins after that byte
a123_is_junk_and_number : AreTokensOf (codes "a123") (Junk ∷ Number 23 ∷ [])
unfolding tokens_from
a123_is_junk_and_number = has_tokens (codes "a123")

-- a keyword may break off at the end
an_is_junk : AreTokensOf (codes "an") (Junk ∷ [])
unfolding tokens_from
an_is_junk = has_tokens (codes "an")

-- spaces give no token
three_tokens : AreTokensOf (codes "i = 5") (Operand operands.I ∷ Operator operators.Eq ∷ Number 5 ∷ [])
unfolding tokens_from
three_tokens = has_tokens (codes "i = 5")

-- three points are two pieces
dots : AreTokensOf (codes "...") (DotDot ∷ Dot ∷ [])
unfolding tokens_from
dots = has_tokens (codes "...")

-- the largest number
largest : AreTokensOf (codes "4294967295") (Number 4294967295 ∷ [])
unfolding tokens_from
largest = has_tokens (codes "4294967295")

-- one more isn't a number
too_large_is_junk : AreTokensOf (codes "4294967296") (Junk ∷ [])
unfolding tokens_from
too_large_is_junk = has_tokens (codes "4294967296")

-- `ax` isn't `a` and `x`
no_two_junks : AreTokensOf (codes "ax") (Junk ∷ Junk ∷ []) → ⊥
unfolding tokens_from
no_two_junks h = let e = tokens_are (codes "ax") (Junk ∷ Junk ∷ []) h in cc

-- the cut of `ax`, by hand: `and` is begun by its first byte, and `x` doesn't fit
ax_by_hand : AreTokensOf (codes "ax") (Junk ∷ [])
ax_by_hand = (
  (codes "ax", Some Junk) ∷ [],
  (
    [],
    refl,
    broken (codes "a") 110 120 refl
        (record {
          word = (codes "and", And);
          more = codes "d";
          is_keyword = (0, lit< tt, refl);
          spelling = refl;
          nonempty = λ e. cc;
          not_i = λ e. omega (arith, heads 97 105 [] [] e);
        })
        (λ e. omega arith) refl,
    refl,
  ),
  refl,
)

-- ---- conditions

-- a text is read, or has a fault, as the reader returns
text_reads : (text : List ℕ) (c : Condition) (rest : List Token) → run begin (tokens_of text) ≡ Ok (c, rest) → TextReads Reads text c
text_reads text c rest h = (tokens_of text, has_tokens text, (rest, subst (Said (tokens_of text)) h (said (tokens_of text))))

-- the same of a fault
text_faulty : (text : List ℕ) (kind : ParseError) (rest : List Token) → run begin (tokens_of text) ≡ Err (kind, rest)
    → TextFaulty Faulty text kind
text_faulty text kind rest h =
    (tokens_of text, has_tokens text, placed_fault (tokens_of text) kind rest (subst (Said (tokens_of text)) h (said (tokens_of text))))

-- what has a fault isn't read
not_read : (text : List ℕ) (kind : ParseError) → TextFaulty Faulty text kind → (c : Condition) → TextReads Reads text c → ⊥
not_read text kind h c k = not_both h.0 c kind (subst (λ l. Reads l c) (tokens_are text k.0 k.1 ∙ sym (tokens_are text h.0 h.1)) k.2) h.2

-- a condition on the operand i
abbrev i_is : List RangeListItem → Condition
i_is xs = only (relation operands.I operators.Eq xs)

-- `0` is a whole number, and what follows it is left
reads_first_zero : TextReads Reads (codes "i = 01") (i_is (items.Value (value 0) ∷ []))
unfolding tokens_from run
reads_first_zero = text_reads (codes "i = 01") _ (Number 1 ∷ []) refl

-- a range has two ends
reads_first_range : TextReads Reads (codes "i = 1..2..3") (i_is (items.Range (value 1) (value 2) ∷ []))
unfolding tokens_from run
reads_first_range = text_reads (codes "i = 1..2..3") _ (DotDot ∷ Number 3 ∷ []) refl

-- the largest value
reads_largest : TextReads Reads (codes "i = 4294967295") (i_is (items.Value (value 4294967295) ∷ []))
unfolding tokens_from run
reads_largest = text_reads (codes "i = 4294967295") _ [] refl

-- one more is no value
too_large : TextFaulty Faulty (codes "i = 4294967296") ExpectedValue
unfolding tokens_from run
too_large = text_faulty (codes "i = 4294967296") ExpectedValue _ refl

-- nothing after And
and_alone : TextFaulty Faulty (codes "i = 1 and") ExpectedRelation
unfolding tokens_from run
and_alone = text_faulty (codes "i = 1 and") ExpectedRelation _ refl

-- `i = 1 and` isn't read as `i = 1`, nor as anything else
and_alone_not_read : (c : Condition) → TextReads Reads (codes "i = 1 and") c → ⊥
and_alone_not_read = not_read (codes "i = 1 and") ExpectedRelation and_alone

-- nothing after Or
or_alone : TextFaulty Faulty (codes "i = 1 or") ExpectedAndCondition
unfolding tokens_from run
or_alone = text_faulty (codes "i = 1 or") ExpectedAndCondition _ refl

-- no operator after an operand
no_operator : TextFaulty Faulty (codes "i 1") ExpectedOperator
unfolding tokens_from run
no_operator = text_faulty (codes "i 1") ExpectedOperator _ refl

-- no operand at the start
no_operand : TextFaulty Faulty (codes "= 1") ExpectedOperand
unfolding tokens_from run
no_operand = text_faulty (codes "= 1") ExpectedOperand _ refl

-- no value after an operator
no_value : TextFaulty Faulty (codes "i = ") ExpectedValue
unfolding tokens_from run
no_value = text_faulty (codes "i = ") ExpectedValue _ refl

-- the empty text is the empty condition
empty_text : TextReads Reads [] (record { 0 = [] })
unfolding tokens_from run
empty_text = text_reads [] _ [] refl

-- so is a text that begins with At
at_foo : TextReads Reads (codes "@foo") (record { 0 = [] })
unfolding tokens_from run
at_foo = text_reads (codes "@foo") _ (At ∷ Operand operands.F ∷ Junk ∷ []) refl

-- a range may fall
falling_range : TextReads Reads (codes "i = 3..1") (i_is (items.Range (value 3) (value 1) ∷ []))
unfolding tokens_from run
falling_range = text_reads (codes "i = 3..1") _ [] refl

-- another token in place of an operand after And
and_then_dot : TextFaulty Faulty (codes "i = 1 and ,") ExpectedOperand
unfolding tokens_from run
and_then_dot = text_faulty (codes "i = 1 and ,") ExpectedOperand _ refl

-- At after Or
or_at : TextFaulty Faulty (codes "i = 1 or @integer 1") ExpectedAndCondition
unfolding tokens_from run
or_at = text_faulty (codes "i = 1 or @integer 1") ExpectedAndCondition _ refl

-- no value after Modulo
no_modulus : TextFaulty Faulty (codes "i % = 1") ExpectedValue
unfolding tokens_from run
no_modulus = text_faulty (codes "i % = 1") ExpectedValue _ refl

-- one modulus at most
modulus_then_modulo : TextFaulty Faulty (codes "i % 5 % 1") ExpectedOperator
unfolding tokens_from run
modulus_then_modulo = text_faulty (codes "i % 5 % 1") ExpectedOperator _ refl

-- nothing after Comma
comma_alone : TextFaulty Faulty (codes "i = 1,") ExpectedValue
unfolding tokens_from run
comma_alone = text_faulty (codes "i = 1,") ExpectedValue _ refl

-- nothing after dots
dots_alone : TextFaulty Faulty (codes "i = 1..") ExpectedValue
unfolding tokens_from run
dots_alone = text_faulty (codes "i = 1..") ExpectedValue _ refl

-- the complex rule
abbrev reduced : ℕ → operator.Operator → List RangeListItem → Relation
reduced m op xs =
    record { expression = record { operand = operands.N; modulus = Some (value m) }; operator = op; range_list = record { 0 = xs } }

abbrev complex : Condition
complex = record {
  0 =
      record {
        0 = reduced 10 operators.Eq (items.Range (value 3) (value 4) ∷ items.Value (value 9) ∷ [])
            ∷ reduced 100 operators.NotEq
            (items.Range (value 10) (value 19) ∷ items.Range (value 70) (value 79) ∷ items.Range (value 90) (value 99) ∷ [])
            ∷ [];
      }
      ∷ record { 0 = relation operands.N operators.Eq (items.Value (value 0) ∷ []) ∷ [] } ∷ [];
}

-- its text
abbrev complex_text : List ℕ
complex_text = codes "n % 10 = 3..4, 9 and n % 100 != 10..19, 70..79, 90..99 or n = 0"

-- it is read of its text
complex_is_read : TextReads Reads complex_text complex
unfolding tokens_from run
complex_is_read = text_reads complex_text complex [] refl

-- and printed as it
complex_is_printed : condition_text complex ≡ complex_text
unfolding digits
complex_is_printed = refl

-- ---- by hand, from the grammar alone

-- `i = 1`
reads_one_by_hand : Reads (Operand operands.I ∷ Operator operators.Eq ∷ Number 1 ∷ []) (i_is (items.Value (value 1) ∷ []))
reads_one_by_hand = (
  [],
  inr (_, refl, (Operand operands.I ∷ [], Number 1 ∷ [], refl, (Operand operands.I, [], refl, refl, refl), (Number 1, refl, refl)), tt),
)

-- `i = 1 and`
and_alone_by_hand : Faulty (Operand operands.I ∷ Operator operators.Eq ∷ Number 1 ∷ And ∷ []) ExpectedRelation
and_alone_by_hand = (
  after_and,
  Operand operands.I ∷ Operator operators.Eq ∷ Number 1 ∷ And ∷ [],
  [],
  refl,
  (
    Operand operands.I ∷ Operator operators.Eq ∷ Number 1 ∷ [],
    i_is (items.Value (value 1) ∷ []),
    refl,
    (Operand operands.I ∷ [], Number 1 ∷ [], refl, (Operand operands.I, [], refl, refl, refl), (Number 1, refl, refl)),
  ),
  refl,
)
