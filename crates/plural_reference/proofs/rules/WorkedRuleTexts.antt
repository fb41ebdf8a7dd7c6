-- Worked rows of whole rules: what is read of a text, and how it is printed.
use Rattle.std.proofs.Common.{◌≡◌, ℕ, List, [], ◌∷◌, ◌++◌, Bool, true, false, Option, Some, None, Ok, Err, refl, subst}
use Rattle.std.specs.Prelude.{codes}
use Rattle.std.specs.Fmt.{digits}
use Rattle.plural_reference.specs.declared.ast.Relation.{Relation}
use Rattle.plural_reference.specs.declared.ast.Rule.{Rule}
use Rattle.plural_reference.specs.declared.ast.RangeListItem.TheVariants as items
use Rattle.plural_operands.specs.declared.operand.Operand as operand
use Rattle.plural_operands.specs.declared.operand.Operand.TheVariants as operands
use Rattle.plural_reference.specs.declared.ast.Operator.TheVariants as operators
use Rattle.plural_reference.specs.declared.ast.SampleList.{SampleList}
use Rattle.plural_reference.specs.declared.ast.SampleRange.{SampleRange}
use Rattle.plural_reference.specs.declared.error.ParseError.{ParseError}
use Rattle.plural_reference.specs.declared.error.ParseError.TheVariants.{ExpectedValue, ExpectedSampleType}
use Rattle.plural_reference.specs.Lexer.{ellipsis, TextReads, TextFaulty}
use Rattle.plural_reference.specs.Samples.{ReadsRule, FaultyRule}
use Rattle.plural_reference.specs.Serializer.{rule_text}
use Rattle.plural_reference.specs.Inner.Scan.{tokens_of, tokens_from}
use Rattle.plural_reference.specs.Inner.Reader.{run}
use Rattle.plural_reference.specs.Inner.SampleReading.SampleReader.{run_samples}
use Rattle.plural_reference.specs.Inner.RuleReader.{rule_of}
use Rattle.plural_reference.proofs.tokens.ScanSound.{has_tokens}
use Rattle.plural_reference.proofs.rules.RuleReadings.{Given, given}

-- a text is read as the rule that the reader gives
reads : (text : List ℕ) (r : Rule) → rule_of (tokens_of text) ≡ Ok r → TextReads ReadsRule text r
unfolding Given
reads text r h = (tokens_of text, has_tokens text, subst (Given (tokens_of text)) h (given (tokens_of text)))

-- a text has the fault that the reader gives
faulty : (text : List ℕ) (kind : ParseError) → rule_of (tokens_of text) ≡ Err kind → TextFaulty FaultyRule text kind
unfolding Given
faulty text kind h = (tokens_of text, has_tokens text, subst (Given (tokens_of text)) h (given (tokens_of text)))

-- a range of one sample
abbrev one : List ℕ → SampleRange
one text = record { lower_val = text; upper_val = None }

-- a range of two
abbrev range : List ℕ → List ℕ → SampleRange
range lower upper = record { lower_val = lower; upper_val = Some upper }

-- a list of these ranges
abbrev list_of : List SampleRange → Bool → Option SampleList
list_of rs more = Some (record { sample_ranges = rs; ellipsis = more })

-- samples after the empty condition
abbrev only_samples : Option SampleList → Option SampleList → Rule
only_samples i d = record { condition = record { 0 = [] }; samples = Some (record { integer = i; decimal = d }) }

-- digits apart are one sample
joined_digits : TextReads ReadsRule (codes "@integer 1 2, " ++ ellipsis) (only_samples (list_of (one (codes "12") ∷ []) true) None)
unfolding tokens_from run run_samples digits
joined_digits = reads (codes "@integer 1 2, " ++ ellipsis) _ refl

-- and it is printed as one
joined_digits_printed : rule_text (only_samples (list_of (one (codes "12") ∷ []) true) None) ≡ codes " @integer 12, " ++ ellipsis
joined_digits_printed = refl

-- their number may be above the largest of a token
long_digits : TextReads ReadsRule (codes "@integer 4294967295 0") (only_samples (list_of (one (codes "42949672950") ∷ []) false) None)
unfolding tokens_from run run_samples digits
long_digits = reads (codes "@integer 4294967295 0") _ refl

-- printed and read again it is a fault
long_digits_again : TextFaulty FaultyRule (codes " @integer 42949672950") ExpectedValue
unfolding tokens_from run run_samples digits
long_digits_again = faulty (codes " @integer 42949672950") ExpectedValue refl

-- of two lists of one type the last is kept
replaced : TextReads ReadsRule (codes "@integer 1, " ++ ellipsis ++ codes " @integer 2")
    (only_samples (list_of (one (codes "2") ∷ []) false) None)
unfolding tokens_from run run_samples digits
replaced = reads (codes "@integer 1, " ++ ellipsis ++ codes " @integer 2") _ refl

-- nothing continues a list after its ellipsis
tilde_unread : TextReads ReadsRule (codes "@integer 1, " ++ ellipsis ++ codes "~2")
    (only_samples (list_of (one (codes "1") ∷ []) true) None)
unfolding tokens_from run run_samples digits
tilde_unread = reads (codes "@integer 1, " ++ ellipsis ++ codes "~2") _ refl

-- a point alone and an exponent alone are samples
point_to_exponent : TextReads ReadsRule (codes "@decimal .~e5") (only_samples None (list_of (range (codes ".") (codes "e5") ∷ []) false))
unfolding tokens_from run run_samples digits
point_to_exponent = reads (codes "@decimal .~e5") _ refl

-- an exponent is one token of digits
one_zero_after_mark : TextReads ReadsRule (codes "@integer 1e05") (only_samples (list_of (one (codes "1e0") ∷ []) false) None)
unfolding tokens_from run run_samples digits
one_zero_after_mark = reads (codes "@integer 1e05") _ refl

-- three points are no ellipsis
dots : TextFaulty FaultyRule (codes "@integer 1, ...") ExpectedValue
unfolding tokens_from run run_samples digits
dots = faulty (codes "@integer 1, ...") ExpectedValue refl

-- `foo` isn't a type of samples
at_foo : TextFaulty FaultyRule (codes "@foo") ExpectedSampleType
unfolding tokens_from run run_samples digits
at_foo = faulty (codes "@foo") ExpectedSampleType refl

-- compact exponents
two_compact : TextReads ReadsRule (codes "@integer 1c6, 2c6")
    (only_samples (list_of (one (codes "1c6") ∷ one (codes "2c6") ∷ []) false) None)
unfolding tokens_from run run_samples digits
two_compact = reads (codes "@integer 1c6, 2c6") _ refl

-- a range of compact numbers
compact_range : TextReads ReadsRule (codes "@decimal 1.1c6~2.0c6, " ++ ellipsis)
    (only_samples None (list_of (range (codes "1.1c6") (codes "2.0c6") ∷ []) true))
unfolding tokens_from run run_samples digits
compact_range = reads (codes "@decimal 1.1c6~2.0c6, " ++ ellipsis) _ refl

-- an exponent alone
mark_first : TextReads ReadsRule (codes "@integer c5") (only_samples (list_of (one (codes "c5") ∷ []) false) None)
unfolding tokens_from run run_samples digits
mark_first = reads (codes "@integer c5") _ refl

-- 0 is an exponent's token of digits
compact_zero : TextReads ReadsRule (codes "@integer 1c06") (only_samples (list_of (one (codes "1c0") ∷ []) false) None)
unfolding tokens_from run run_samples digits
compact_zero = reads (codes "@integer 1c06") _ refl

-- a sample has one exponent
one_mark : TextReads ReadsRule (codes "@integer 1e3c4") (only_samples (list_of (one (codes "1e3") ∷ []) false) None)
unfolding tokens_from run run_samples digits
one_mark = reads (codes "@integer 1e3c4") _ refl

-- a mark without digits
mark_alone : TextFaulty FaultyRule (codes "i = 1 @integer 1c") ExpectedValue
unfolding tokens_from run run_samples digits
mark_alone = faulty (codes "i = 1 @integer 1c") ExpectedValue refl

-- a whole rule, read and printed
abbrev relation : operand.Operand → ℕ → Relation
relation o n = record {
  expression = record { operand = o; modulus = None };
  operator = operators.Eq;
  range_list = record { 0 = items.Value (record { 0 = n }) ∷ [] };
}

abbrev whole : Rule
whole = record {
  condition = record { 0 = (record { 0 = relation operands.I 0 ∷ [] }) ∷ (record { 0 = relation operands.N 1 ∷ [] }) ∷ [] };
  samples =
      Some
      (record {
        integer = list_of (one (codes "0") ∷ one (codes "1") ∷ []) false;
        decimal = list_of (range (codes "0.0") (codes "1.0") ∷ range (codes "0.00") (codes "0.04") ∷ []) false;
      });
}

-- its text
abbrev whole_text : List ℕ
whole_text = codes "i = 0 or n = 1 @integer 0, 1 @decimal 0.0~1.0, 0.00~0.04"

-- it is read of its text
whole_read : TextReads ReadsRule whole_text whole
unfolding tokens_from run run_samples digits
whole_read = reads whole_text whole refl

-- and printed as it
whole_printed : rule_text whole ≡ whole_text
unfolding digits
whole_printed = refl
