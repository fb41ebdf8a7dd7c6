-- Worked rows of samples, by hand from the grammar.
use Rattle.std.proofs.Common.{◌≡◌, ◌≢◌, ℕ, List, [], ◌∷◌, ◌++◌, Bool, true, false, Option, Some, None, refl, inr}
use Rattle.std.proofs.lemmas.Bool.{true≢false}
use Rattle.std.specs.Prelude.{codes}
use Rattle.std.specs.Fmt.{digits}
use Rattle.std.specs.List.{flat_map, AllByRecursion}
use Rattle.plural_operands.specs.declared.operand.Operand.TheVariants.{C, F}
use Rattle.plural_reference.specs.declared.ast.SampleList.{SampleList}
use Rattle.plural_reference.specs.declared.ast.SampleRange.{SampleRange}
use Rattle.plural_reference.specs.declared.ast.Samples as samples
use Rattle.plural_reference.specs.declared.error.ParseError.TheVariants.{ExpectedValue, ExpectedSampleType}
use Rattle.plural_reference.specs.declared.token.Token.{Token}
use Rattle.plural_reference.specs.declared.token.Token.TheVariants.{Operand, Number, Zero, Dot, DotDot, Comma, At, Decimal, Integer}
use Rattle.plural_reference.specs.declared.token.Token.TheVariants.{Ellipsis, Tilde, E, Junk}
use Rattle.plural_reference.specs.Samples.{IsSample, IsDigits, IsFraction, IsExponent, ReadsSamples, FaultyInSamples, after_at}
use Rattle.plural_reference.specs.Samples.{after_comma, after_mark, token_text, samples_of}

abbrev one : List ℕ → SampleRange
one text = record { lower_val = text; upper_val = None }

-- a list of one range
abbrev list_of : SampleRange → Bool → SampleList
list_of r more = record { sample_ranges = r ∷ []; ellipsis = more }

-- samples of integers alone
abbrev integer_only : SampleList → Option samples.Samples
integer_only l = Some (record { integer = Some l; decimal = None })

-- a sample, from its parts
sample : (i f e : List Token) (text : List ℕ)
    → AllByRecursion IsDigits i → IsFraction f → IsExponent e → (i ++ f ++ e ≢ []) → text ≡ flat_map token_text (i ++ f ++ e)
    → IsSample (i ++ f ++ e) text
sample i f e text a b c d t = (record { integer = i; fraction = f; exponent = e }, (refl, a, b, c, d), t)

-- a list with a token isn't empty
not_empty : (t : Token) (ts : List Token) → t ∷ ts ≢ []
not_empty t ts e = cc

-- `@integer 1 2, …`
joined_digits : ReadsSamples (At ∷ Integer ∷ Number 1 ∷ Number 2 ∷ Comma ∷ Ellipsis ∷ []) (integer_only (list_of (one (codes "12")) true))
unfolding digits
joined_digits = (
  record { type = Integer; list = list_of (one (codes "12")) true } ∷ [],
  _,
  [],
  refl,
  (
    Number 1 ∷ Number 2 ∷ Comma ∷ Ellipsis ∷ [],
    [],
    refl,
    tt,
    (
      Number 1 ∷ Number 2 ∷ [],
      Comma ∷ Ellipsis ∷ [],
      refl,
      (
        Number 1 ∷ Number 2 ∷ [],
        [],
        refl,
        sample (Number 1 ∷ Number 2 ∷ []) [] [] (codes "12") (tt, (tt, tt)) tt tt (not_empty _ _) refl,
        refl,
      ),
      refl,
    ),
    refl,
  ),
  tt,
  refl,
)

-- `@integer 1e05`: the rest isn't read
exponent_of_one : ReadsSamples (At ∷ Integer ∷ Number 1 ∷ E ∷ Zero ∷ Number 5 ∷ []) (integer_only (list_of (one (codes "1e0")) false))
unfolding digits
exponent_of_one = (
  record { type = Integer; list = list_of (one (codes "1e0")) false } ∷ [],
  _,
  Number 5 ∷ [],
  refl,
  (
    Number 1 ∷ E ∷ Zero ∷ [],
    [],
    refl,
    tt,
    (
      Number 1 ∷ E ∷ Zero ∷ [],
      [],
      refl,
      (
        Number 1 ∷ E ∷ Zero ∷ [],
        [],
        refl,
        sample (Number 1 ∷ []) [] (E ∷ Zero ∷ []) (codes "1e0") (tt, tt) tt (tt, tt) (not_empty _ _) refl,
        refl,
      ),
      refl,
    ),
    refl,
  ),
  (λ k. true≢false k.0),
  refl,
)

-- `@integer 1c6`
compact : ReadsSamples (At ∷ Integer ∷ Number 1 ∷ Operand C ∷ Number 6 ∷ []) (integer_only (list_of (one (codes "1c6")) false))
unfolding digits
compact = (
  record { type = Integer; list = list_of (one (codes "1c6")) false } ∷ [],
  _,
  [],
  refl,
  (
    Number 1 ∷ Operand C ∷ Number 6 ∷ [],
    [],
    refl,
    tt,
    (
      Number 1 ∷ Operand C ∷ Number 6 ∷ [],
      [],
      refl,
      (
        Number 1 ∷ Operand C ∷ Number 6 ∷ [],
        [],
        refl,
        sample (Number 1 ∷ []) [] (Operand C ∷ Number 6 ∷ []) (codes "1c6") (tt, tt) tt (tt, tt) (not_empty _ _) refl,
        refl,
      ),
      refl,
    ),
    refl,
  ),
  tt,
  refl,
)

-- `@integer 1, ...`
dots_for_ellipsis : FaultyInSamples (At ∷ Integer ∷ Number 1 ∷ Comma ∷ DotDot ∷ Dot ∷ []) ExpectedValue
unfolding digits
dots_for_ellipsis = (
  after_comma,
  At ∷ Integer ∷ Number 1 ∷ Comma ∷ [],
  DotDot ∷ Dot ∷ [],
  refl,
  (
    At ∷ Integer ∷ Number 1 ∷ [],
    record { type = Integer; list = list_of (one (codes "1")) false } ∷ [],
    refl,
    (
      Number 1 ∷ [],
      [],
      refl,
      tt,
      (
        Number 1 ∷ [],
        [],
        refl,
        (Number 1 ∷ [], [], refl, sample (Number 1 ∷ []) [] [] (codes "1") (tt, tt) tt tt (not_empty _ _) refl, refl),
        refl,
      ),
      refl,
    ),
    refl,
  ),
  refl,
)

-- `@foo`
at_foo : FaultyInSamples (At ∷ Operand F ∷ Junk ∷ []) ExpectedSampleType
at_foo = (after_at, At ∷ [], Operand F ∷ Junk ∷ [], refl, ([], [], refl, refl, tt), refl)

-- `@decimal .~e5`
point_to_exponent : ReadsSamples (At ∷ Decimal ∷ Dot ∷ Tilde ∷ E ∷ Number 5 ∷ [])
    (Some (record { integer = None; decimal = Some (list_of (record { lower_val = codes "."; upper_val = Some (codes "e5") }) false) }))
unfolding digits
point_to_exponent = (
  record { type = Decimal; list = list_of (record { lower_val = codes "."; upper_val = Some (codes "e5") }) false } ∷ [],
  _,
  [],
  refl,
  (
    Dot ∷ Tilde ∷ E ∷ Number 5 ∷ [],
    [],
    refl,
    tt,
    (
      Dot ∷ Tilde ∷ E ∷ Number 5 ∷ [],
      [],
      refl,
      (
        Dot ∷ [],
        Tilde ∷ E ∷ Number 5 ∷ [],
        refl,
        sample [] (Dot ∷ []) [] (codes ".") tt tt tt (not_empty _ _) refl,
        (E ∷ Number 5 ∷ [], refl, sample [] [] (E ∷ Number 5 ∷ []) (codes "e5") tt tt (tt, tt) (not_empty _ _) refl),
      ),
      refl,
    ),
    refl,
  ),
  tt,
  refl,
)

-- `@integer 1c`
mark_alone : FaultyInSamples (At ∷ Integer ∷ Number 1 ∷ Operand C ∷ []) ExpectedValue
unfolding digits
mark_alone = (
  after_mark,
  At ∷ Integer ∷ Number 1 ∷ Operand C ∷ [],
  [],
  refl,
  (
    Operand C,
    tt,
    inr (
      At ∷ Integer ∷ Number 1 ∷ [],
      record { type = Integer; list = list_of (one (codes "1")) false } ∷ [],
      refl,
      (
        Number 1 ∷ [],
        [],
        refl,
        tt,
        (
          Number 1 ∷ [],
          [],
          refl,
          (Number 1 ∷ [], [], refl, sample (Number 1 ∷ []) [] [] (codes "1") (tt, tt) tt tt (not_empty _ _) refl, refl),
          refl,
        ),
        refl,
      ),
      (refl, inr tt),
    ),
  ),
  refl,
)

-- `@integer 1, … @integer 2`
replaced :
    samples_of
    (record { type = Integer; list = list_of (one (codes "1")) true } ∷ record { type = Integer; list = list_of (one (codes "2")) false }
    ∷ [])
    ≡ integer_only (list_of (one (codes "2")) false)
replaced = refl
