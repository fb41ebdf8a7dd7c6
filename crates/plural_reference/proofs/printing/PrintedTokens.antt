-- The tokens of printed texts, one text after another: a text gives its tokens before each rest
-- that may follow it, so that printed parts can be joined and still be scanned part by part; and a
-- printed number is one token. The other proofs on what is printed rest on it.
use Rattle.std.proofs.Common.{◌≡◌, ◌≢◌, ◌≤◌, ◌<◌, ◌^◌, ℕ, zero, suc, List, [], ◌∷◌, ◌++◌}
use Rattle.std.proofs.Common.{length, get_or, refl, sym, ap, ◌∙◌, append_assoc, arith, rules}
use Rattle.std.proofs.lemmas.Bool.{le-leb}
use Rattle.std.proofs.lemmas.Fmt.{decimal_is_IsNumeral, first_decimal, digits_decimal}
use Rattle.std.proofs.lemmas.List.Elements.{All-from_recursion}
use Rattle.std.proofs.lemmas.Str.Parse.{IsNumeralModel, IsDigitsTest, numerals_by_value}
use Rattle.std.specs.Char.{IsAsciiDigit}
use Rattle.std.specs.Fmt.{decimal, digits}
use Rattle.std.specs.List.{AllByRecursion}
use Rattle.std.specs.Prelude.{IfSome}
use Rattle.std.specs.Str.Parse.{digits_value}
use Rattle.plural_reference.specs.declared.ast.RangeListItem.TheVariants as items
use Rattle.plural_reference.specs.declared.token.Token.{Token}
use Rattle.plural_reference.specs.declared.token.Token.TheVariants.{Number, Zero}
use Rattle.plural_reference.specs.Lexer.{IsDigitRun, max_number, first}
use Rattle.plural_reference.specs.Parser.{Separated, IsItem}
use Rattle.plural_reference.specs.Inner.Scan.{tokens_of, tokens_from}
use Rattle.plural_reference.specs.Serializer.{joined}
use Rattle.plural_reference.proofs.tokens.ScanComplete.{run_scans}

-- the text gives these tokens before each rest that may follow it
pub record Scans (Follows : List ℕ → Type 0) (text : List ℕ) (tokens : List Token) : Type 0 where
  pub gives : (rest : List ℕ) → Follows rest → tokens_of (text ++ rest) ≡ tokens ++ tokens_of rest

-- a text and one that may follow it give the tokens of both
pub scans_then : (First Last : List ℕ → Type 0) (a b : List ℕ) (s t : List Token) → Scans First a s → Scans Last b t
    → ((rest : List ℕ) → Last rest → First (b ++ rest)) → Scans Last (a ++ b) (s ++ t)
scans_then First Last a b s t h k f = record {
  gives = λ rest l.
      ap tokens_of (append_assoc a b rest)
      ∙ h.gives (b ++ rest) (f rest l)
      ∙ ap (λ ts. s ++ ts) (k.gives rest l)
      ∙ sym (append_assoc s t (tokens_of rest));
}

-- such a text of a part, whose tokens spell it
pub record Spells {A : Type 0} (Follows : List ℕ → Type 0) (Part : List Token → A → Type 0) (text : List ℕ) (x : A) : Type 0 where
  pub tokens : List Token
  pub part : Part tokens x
  pub scans : Scans Follows text tokens

-- parts with separators between them
module _ {A : Type 0} (Follows : List ℕ → Type 0) (Part : List Token → A → Type 0) (text : A → List ℕ)
    (separator : List ℕ) (mark : Token)
    (gives_mark : (rest : List ℕ) → tokens_of (separator ++ rest) ≡ mark ∷ tokens_of rest)
    (may_follow : (rest : List ℕ) → Follows (separator ++ rest)) where
  -- if the text of each part spells it, the joined texts spell the parts with separators between
  -- them
  pub joined_spells : (xs : List A) → xs ≢ [] → AllByRecursion (λ x. Spells Follows Part (text x) x) xs
      → Spells Follows (Separated mark Part) (joined separator text xs) xs
  joined_spells [] some h = absurd (some refl)
  joined_spells (x ∷ []) some h = record { tokens = h.0.tokens; part = h.0.part; scans = h.0.scans }
  joined_spells (x ∷ y ∷ ys) some h =
      let more : Spells Follows (Separated mark Part) (joined separator text (y ∷ ys)) (y ∷ ys) = joined_spells (y ∷ ys) (λ e. cc) h.1 in
      record {
        tokens = h.0.tokens ++ mark ∷ more.tokens;
        part = (h.0.tokens, more.tokens, refl, h.0.part, more.part);
        scans = record {
          gives = λ rest f.
              ap tokens_of
              (append_assoc (text x ++ separator) (joined separator text (y ∷ ys)) rest
              ∙ append_assoc (text x) separator (joined separator text (y ∷ ys) ++ rest))
              ∙ h.0.scans.gives _ (may_follow _)
              ∙ ap (λ ts. h.0.tokens ++ ts) (gives_mark _ ∙ ap (λ ts. mark ∷ ts) (more.scans.gives rest f))
              ∙ sym (append_assoc h.0.tokens (mark ∷ more.tokens) (tokens_of rest));
        };
      }

-- ---- numbers

-- a byte below `0` isn't a digit
pub below_digits : (b : ℕ) → b < 48 → IsAsciiDigit b → ⊥
below_digits b h d = omega (arith, d.0)

-- a byte above `9` isn't a digit
pub above_digits : (b : ℕ) → 57 < b → IsAsciiDigit b → ⊥
above_digits b h d = omega (arith, d.1)

-- what may follow a number: the end, or a byte that isn't a digit
abbrev pub EndsRun : List ℕ → Type 0
EndsRun rest = IfSome (first rest) (λ b. ¬ (IsAsciiDigit b))

-- bytes that are digits all
abbrev pub AreDigits : List ℕ → Type 0
AreDigits ds = AllByRecursion IsAsciiDigit ds

-- the lemmas on numerals take such bytes as digits
are_tested : IsDigitsTest AreDigits
are_tested = search rules

-- and their value as the number that they write
pub numerals : IsNumeralModel AreDigits (digits_value 10)
numerals = numerals_by_value AreDigits are_tested

-- a first byte above `0` is not `0`
not_zero_first : (ds : List ℕ) → 48 < get_or ds 0 0 → IfSome (first ds) (λ d. d ≢ 48)
not_zero_first [] h = tt
not_zero_first (d ∷ ds) h = λ e. omega arith

-- a list of some length is not empty
pub nonempty_of : (ds : List ℕ) → 0 < length ds → ds ≢ []
nonempty_of [] h e = omega arith
nonempty_of (d ∷ ds) h e = cc

-- a number that a token holds has 64 bits at most
pub small_fits : (n : ℕ) → n ≤ max_number → n < 2 ^ 64
small_fits n h = omega arith

-- a printed number other than 0 is a run of digits
pub run_of_number : (n : ℕ) (rest : List ℕ) → 0 < n → n ≤ max_number → EndsRun rest → IsDigitRun (decimal n) rest
run_of_number n rest low high ends =
    let fits = small_fits n high in
    record {
      begins = not_zero_first (decimal n) (first_decimal n low fits);
      nonempty = nonempty_of (decimal n) (decimal_is_IsNumeral n fits).0.0;
      all_digits = All-from_recursion IsAsciiDigit (decimal n) (digits_decimal numerals n fits);
      whole = ends;
    }

-- a run of digits that a token holds is one token, of its number
pub run_gives : (ds rest : List ℕ) → IsDigitRun ds rest → digits_value 10 ds ≤ max_number
    → tokens_of (ds ++ rest) ≡ Number (digits_value 10 ds) ∷ tokens_of rest
run_gives ds rest run small = run_scans ds rest run ∙ rw (le-leb (digits_value 10 ds) max_number small) refl

-- the printed text of a number that a token holds is one token, which spells it
pub number_spells : (n : ℕ) → n ≤ max_number → Spells EndsRun IsItem (decimal n) (items.Value (record { 0 = n }))
unfolding tokens_from digits
number_spells zero h = record { tokens = Zero ∷ []; part = (Zero, refl, refl); scans = record { gives = λ rest f. refl } }
number_spells (suc k) h =
    let value_is = (decimal_is_IsNumeral (suc k) (small_fits (suc k) h)).1 in
    record {
      tokens = Number (suc k) ∷ [];
      part = (Number (suc k), refl, refl);
      scans =
          record {
            gives = λ rest f.
                run_gives (decimal (suc k)) rest (run_of_number (suc k) rest (omega arith) h f) (rw value_is h)
                ∙ ap (λ n. Number n ∷ tokens_of rest) value_is;
          };
    }
