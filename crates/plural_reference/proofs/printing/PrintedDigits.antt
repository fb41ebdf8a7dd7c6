-- The tokens of the digits, the fraction and the exponent of a printed sample, which join to their
-- texts again: not always the tokens that were read, since `0` before a number is a token of its
-- own. PrintedSamples puts them together.
use Rattle.std.proofs.Common.{◌≡◌, ◌≢◌, ◌≤◌, ℕ, List, [], ◌∷◌, ◌++◌, Some, refl, sym, ap, ◌∙◌, subst, append_assoc, arith, ⊎_elim}
use Rattle.std.proofs.lemmas.Bool.{eqb-false}
use Rattle.std.proofs.lemmas.Bool.Decides.{eqb_tells}
use Rattle.std.proofs.lemmas.Fmt.{digits_decimal, decimal-digits_value}
use Rattle.std.proofs.lemmas.List.{append-nil}
use Rattle.std.proofs.lemmas.List.Elements.{All-from_recursion}
use Rattle.std.specs.Char.{IsAsciiDigit}
use Rattle.std.specs.Fmt.{decimal}
use Rattle.std.specs.List.{AllByRecursion, flat_map}
use Rattle.std.specs.Prelude.{IfSome}
use Rattle.std.specs.Str.Parse.{digits_value}
use Rattle.plural_operands.specs.declared.operand.Operand.TheVariants.{C}
use Rattle.plural_reference.specs.declared.ast.RangeListItem.TheVariants as items
use Rattle.plural_reference.specs.declared.token.Token.{Token}
use Rattle.plural_reference.specs.declared.token.Token.TheVariants.{Operand, Number, Zero, Dot, E}
use Rattle.plural_reference.specs.Lexer.{max_number, first}
use Rattle.plural_reference.specs.Parser.{IsItem}
use Rattle.plural_reference.specs.Samples.{IsDigits, IsExponentMark, IsFraction, IsExponent, token_text}
use Rattle.plural_reference.specs.Inner.Scan.{tokens_of, tokens_from}
use Rattle.plural_reference.proofs.tokens.Alone.{point_alone}
use Rattle.plural_reference.proofs.printing.PrintedTokens.{below_digits, above_digits, Scans, Spells, EndsRun}
use Rattle.plural_reference.proofs.printing.PrintedTokens.{AreDigits, numerals, small_fits, run_gives, number_spells}
use Rattle.plural_reference.proofs.samples.SampleParserSteps.{digit_again}
use Rattle.plural_reference.proofs.tokens.TokensFit.{TokenFits, AllFit}

-- a byte that is neither a digit nor a point
abbrev pub BreaksSample : ℕ → Type 0
BreaksSample b = (IsAsciiDigit b → ⊥) × (b ≢ 46)

-- what may follow a sample: the end, or a byte that is neither a digit nor a point
abbrev pub EndsSample : List ℕ → Type 0
EndsSample rest = IfSome (first rest) BreaksSample

-- a space may follow a sample
pub space_breaks : BreaksSample 32
space_breaks = (below_digits 32 (omega arith), eqb-false 32 46 refl)

-- a comma may follow a sample
pub comma_breaks : BreaksSample 44
comma_breaks = (below_digits 44 (omega arith), eqb-false 44 46 refl)

-- what may follow a sample may follow a number
pub sample_ends_run : (rest : List ℕ) → EndsSample rest → EndsRun rest
sample_ends_run [] h = tt
sample_ends_run (b ∷ bs) h = h.0

-- tokens of this form whose texts join to the text
abbrev pub Retold : (List Token → Type 0) → List Token → List ℕ → Type 0
Retold Form tokens text = Form tokens × (flat_map token_text tokens ≡ text)

-- ---- digits

-- digits and more digits are digits
are_append : (a b : List ℕ) → AreDigits a → AreDigits b → AreDigits (a ++ b)
are_append [] b h k = k
are_append (d ∷ ds) b h k = (h.0, are_append ds b h.1 k)

-- the text of a run of digits is digits
token_digits : (t : Token) → TokenFits t → IsDigits t → AreDigits (token_text t)
token_digits Zero f h = ((omega arith, omega arith), tt)
token_digits (Number n) f h = digits_decimal numerals n (small_fits n f)
token_digits _ f h = absurd h

-- the text of runs of digits is digits
pub text_digits : (tokens : List Token) → AllFit tokens → AllByRecursion IsDigits tokens → AreDigits (flat_map token_text tokens)
text_digits [] f h = tt
text_digits (t ∷ ts) f h = are_append (token_text t) (flat_map token_text ts) (token_digits t f.0 h.0) (text_digits ts f.1 h.1)

-- `0` before digits is a token of its own
after_zero : (d : ℕ) (ds : List ℕ) → d ≡ 48 → Spells EndsRun (Retold (AllByRecursion IsDigits)) ds ds
    → Spells EndsRun (Retold (AllByRecursion IsDigits)) (d ∷ ds) (d ∷ ds)
unfolding tokens_from
after_zero d ds e s = record {
  tokens = Zero ∷ s.tokens;
  part = ((tt, s.part.0), ap (λ l. 48 ∷ l) s.part.1 ∙ ap (λ b. b ∷ ds) (sym e));
  scans = record { gives = λ rest f. rw e (ap (λ ts. Zero ∷ ts) (s.scans.gives rest f)) };
}

-- digits whose first isn't `0` are one token, and its text is theirs
one_run : (d : ℕ) (ds : List ℕ) → d ≢ 48 → AreDigits (d ∷ ds) → digits_value 10 (d ∷ ds) ≤ max_number
    → Spells EndsRun (Retold (AllByRecursion IsDigits)) (d ∷ ds) (d ∷ ds)
one_run d ds other h small = record {
  tokens = Number (digits_value 10 (d ∷ ds)) ∷ [];
  part = ((tt, tt), append-nil _ ∙ decimal-digits_value numerals (d ∷ ds) h (omega arith) (λ e. absurd (other e)) (small_fits _ small));
  scans =
      record {
        gives = λ rest f.
            run_gives (d ∷ ds) rest
            (record {
              begins = other;
              nonempty = λ e. cc;
              all_digits = All-from_recursion IsAsciiDigit (d ∷ ds) h;
              whole = f;
            })
            small;
      };
}

-- digits give tokens of digits, with the same text: some zeros, and then a number
pub digits_retold : (ds : List ℕ) → AreDigits ds → digits_value 10 ds ≤ max_number → Spells EndsRun (Retold (AllByRecursion IsDigits)) ds ds
digits_retold [] h small = record { tokens = []; part = (tt, refl); scans = record { gives = λ rest f. refl } }
digits_retold (d ∷ ds) h small =
    ⊎_elim
    (λ k. after_zero d ds k.1 (digits_retold ds h.1 (subst (λ b. digits_value 10 (b ∷ ds) ≤ max_number) k.1 small)))
    (λ k. one_run d ds k.1 h small)
    (eqb_tells d 48)

-- ---- a fraction

-- digits and what may follow a sample don't begin with a point
no_point_first : (ds rest : List ℕ) → AreDigits ds → EndsSample rest → first (ds ++ rest) ≢ Some 46
no_point_first [] [] h k e = cc
no_point_first [] (b ∷ bs) h k e = let same : b ≡ 46 = cc in k.1 same
no_point_first (d ∷ ds) rest h k e = let same : d ≡ 46 = cc in omega (arith, h.0.0)

-- the text of a fraction gives tokens of a fraction, with the same text
pub fraction_retold : (f : List Token) → AllFit f → IsFraction f
    → ((ds : List ℕ) → AreDigits ds → flat_map token_text f ≡ 46 ∷ ds → digits_value 10 ds ≤ max_number)
    → Spells EndsSample (Retold IsFraction) (flat_map token_text f) (flat_map token_text f)
unfolding tokens_from
fraction_retold [] a h small = record { tokens = []; part = (tt, refl); scans = record { gives = λ rest f. refl } }
fraction_retold (Dot ∷ ts) a h small =
    let ds = flat_map token_text ts in
    let are : AreDigits ds = text_digits ts a.1 h in
    let s : Spells EndsRun (Retold (AllByRecursion IsDigits)) ds ds = digits_retold ds are (small ds are refl) in
    record {
      tokens = Dot ∷ s.tokens;
      part = (s.part.0, ap (λ l. 46 ∷ l) s.part.1);
      scans =
          record {
            gives = λ rest f.
                point_alone 46 (ds ++ rest) refl (no_point_first ds rest are f)
                ∙ ap (λ l. Dot ∷ l) (s.scans.gives rest (sample_ends_run rest f));
          };
    }
fraction_retold (_ ∷ ts) a h small = absurd h

-- a fraction, and what may follow a sample, may follow a number
pub fraction_follows : (f : List Token) → IsFraction f → (rest : List ℕ) → EndsSample rest → EndsRun (flat_map token_text f ++ rest)
fraction_follows [] h rest k = sample_ends_run rest k
fraction_follows (Dot ∷ ts) h rest k = below_digits 46 (omega arith)
fraction_follows (_ ∷ ts) h rest k = absurd h

-- ---- an exponent

-- the text of a run of digits that a token holds gives one token of digits, with the same text
digit_retold : (t : Token) → TokenFits t → IsDigits t
    → (u : Token) × IsDigits u × (token_text u ≡ token_text t) × Scans EndsRun (token_text t) (u ∷ [])
unfolding tokens_from
digit_retold Zero f h = (Zero, tt, refl, record { gives = λ rest k. refl })
digit_retold (Number n) f h =
    let s : Spells EndsRun IsItem (decimal n) (items.Value (record { 0 = n })) = number_spells n f in
    let again = digit_again s.part.0 n s.part.2 in
    (s.part.0, again.0, again.1, subst (λ (ts : List Token). Scans EndsRun (decimal n) ts) s.part.1 s.scans)
digit_retold _ f h = absurd h

-- the text of a mark and digits gives tokens of an exponent, with the same text
mark_retold : (m t : Token) → TokenFits t → IsExponentMark m → IsDigits t
    → Spells EndsSample (Retold IsExponent) (flat_map token_text (m ∷ t ∷ [])) (flat_map token_text (m ∷ t ∷ []))
unfolding tokens_from
mark_retold E t f h k =
    let u = digit_retold t f k in
    record {
      tokens = E ∷ u.0 ∷ [];
      part = ((tt, u.1), ap (λ l. 101 ∷ (l ++ [])) u.2);
      scans =
          record {
            gives = λ rest s.
                ap (λ ts. E ∷ ts)
                (ap (λ l. tokens_of (l ++ rest)) (append-nil (token_text t))
                ∙ u.3.gives rest (sample_ends_run rest s));
          };
    }
mark_retold (Operand C) t f h k =
    let u = digit_retold t f k in
    record {
      tokens = Operand C ∷ u.0 ∷ [];
      part = ((tt, u.1), ap (λ l. 99 ∷ (l ++ [])) u.2);
      scans =
          record {
            gives = λ rest s.
                ap (λ ts. Operand C ∷ ts)
                (ap (λ l. tokens_of (l ++ rest)) (append-nil (token_text t))
                ∙ u.3.gives rest (sample_ends_run rest s));
          };
    }
mark_retold _ t f h k = absurd h

-- the text of an exponent gives tokens of an exponent, with the same text
pub exponent_retold : (e : List Token) → AllFit e → IsExponent e
    → Spells EndsSample (Retold IsExponent) (flat_map token_text e) (flat_map token_text e)
exponent_retold [] f h = record { tokens = []; part = (tt, refl); scans = record { gives = λ rest s. refl } }
exponent_retold (m ∷ t ∷ []) f h = mark_retold m t f.1.0 h.0 h.1
exponent_retold (m ∷ []) f h = absurd h
exponent_retold (m ∷ t ∷ u ∷ us) f h = absurd h

-- the text of a mark is neither a digit nor a point
mark_follows : (m : Token) (rest : List ℕ) → IsExponentMark m → EndsSample (token_text m ++ rest)
mark_follows E rest h = (above_digits 101 (omega arith), eqb-false 101 46 refl)
mark_follows (Operand C) rest h = (above_digits 99 (omega arith), eqb-false 99 46 refl)
mark_follows _ rest h = absurd h

-- an exponent, and what may follow a sample, may follow a sample without an exponent
pub exponent_follows : (e : List Token) → IsExponent e → (rest : List ℕ) → EndsSample rest → EndsSample (flat_map token_text e ++ rest)
exponent_follows [] h rest k = k
exponent_follows (m ∷ t ∷ []) h rest k =
    subst EndsSample (sym (append_assoc (token_text m) (flat_map token_text (t ∷ [])) rest)) (mark_follows m _ h.0)
exponent_follows (m ∷ []) h rest k = absurd h
exponent_follows (m ∷ t ∷ u ∷ us) h rest k = absurd h
