-- The grammar of samples over tokens (UTS 35 Part 3, Samples), what is read from the tokens after a
-- condition, and which fault they have.
use Rattle.std.specs.Prelude.{◌≡◌, ◌≢◌, ◌⊎◌, ℕ, List, [], ◌∷◌, ◌++◌, Bool, true, false, Option, Some, None, IfSome, IsSome}
use Rattle.std.specs.Prelude.{IsSomeAnd, fold, unwrap_or, ◌==◌, ◌||◌, if◌then◌else◌, codes}
use Rattle.std.specs.Option.{option_and_then}
use Rattle.std.specs.List.{AllByRecursion, list_any, flat_map}
use Rattle.std.specs.Fmt.{decimal}
use Rattle.plural_operands.specs.declared.operand.Operand.TheVariants.{C}
use Rattle.plural_reference.specs.declared.ast.Samples as samples
use Rattle.plural_reference.specs.declared.ast.SampleList.{SampleList}
use Rattle.plural_reference.specs.declared.ast.SampleRange.{SampleRange}
use Rattle.plural_reference.specs.declared.ast.DecimalValue.{DecimalValue}
use Rattle.plural_reference.specs.declared.ast.Rule.{Rule}
use Rattle.plural_reference.specs.declared.ast.Condition.{Condition}
use Rattle.plural_reference.specs.declared.error.ParseError.{ParseError}
use Rattle.plural_reference.specs.declared.error.ParseError.TheVariants.{ExpectedSampleType}
use Rattle.plural_reference.specs.declared.token.Token.{Token}
use Rattle.plural_reference.specs.declared.token.Token.TheVariants.{Operand, Number, Zero, Dot, Comma, At, Decimal, Integer}
use Rattle.plural_reference.specs.declared.token.Token.TheVariants.{Ellipsis, Tilde, E}
use Rattle.plural_reference.specs.Lexer.{AreTokensOf, first, last}
use Rattle.plural_reference.specs.Parser.{IsCondition, Separated, ReadsUpTo, Faulty, token_value, value_fault}

-- ---- kinds of token

-- a run of digits
abbrev pub IsDigits : Token → Type 0
IsDigits t = IsSomeAnd (token_value t) (λ _. Unit {0})

-- what begins the exponent of a sample
abbrev pub IsExponentMark : Token → Type 0
IsExponentMark E = Unit {0}
IsExponentMark (Operand C) = Unit {0}
IsExponentMark _ = ⊥

-- what may follow At
abbrev pub IsSampleType : Token → Type 0
IsSampleType Integer = Unit {0}
IsSampleType Decimal = Unit {0}
IsSampleType _ = ⊥

-- ---- the grammar

-- (Dot digits)?
abbrev pub IsFraction : List Token → Type 0
IsFraction [] = Unit {0}
IsFraction (Dot ∷ ts) = AllByRecursion IsDigits ts
IsFraction _ = ⊥

-- ((E | C) (Number | Zero))?
abbrev pub IsExponent : List Token → Type 0
IsExponent [] = Unit {0}
IsExponent (mark ∷ digits ∷ []) = IsExponentMark mark × IsDigits digits
IsExponent _ = ⊥

-- the parts of a sample: its integer digits, its fraction and its exponent
pub record SampleParts : Type 0 where
  pub integer : List Token
  pub fraction : List Token
  pub exponent : List Token

-- sample = digits (Dot digits)? ((E | C) (Number | Zero))?      not empty as a whole
abbrev pub IsSampleOf : List Token → SampleParts → Type 0
IsSampleOf tokens s =
    (tokens ≡ s.integer ++ s.fraction ++ s.exponent)
    × AllByRecursion IsDigits s.integer × IsFraction s.fraction × IsExponent s.exponent × (tokens ≢ [])

-- the text of a sample's token
abbrev pub token_text : Token → List ℕ
token_text Zero = codes "0"
token_text (Number n) = decimal n
token_text Dot = codes "."
token_text E = codes "e"
token_text (Operand C) = codes "c"
token_text _ = []

-- a sample, whose text is the texts of its tokens joined
abbrev pub IsSample : List Token → DecimalValue → Type 0
IsSample tokens text = (s : SampleParts) × IsSampleOf tokens s × (text ≡ flat_map token_text tokens)

-- (Tilde sample)?
abbrev pub IsUpper : List Token → Option DecimalValue → Type 0
IsUpper tokens None = tokens ≡ []
IsUpper tokens (Some upper) = (rest : List Token) × (tokens ≡ Tilde ∷ rest) × IsSample rest upper

-- range = sample (Tilde sample)?
abbrev pub IsSampleRange : List Token → SampleRange → Type 0
IsSampleRange tokens r =
    (left : List Token) × (right : List Token) × (tokens ≡ left ++ right) × IsSample left r.lower_val × IsUpper right r.upper_val

-- (Comma Ellipsis)?
abbrev pub IsEllipsis : List Token → Bool → Type 0
IsEllipsis tokens false = tokens ≡ []
IsEllipsis tokens true = tokens ≡ Comma ∷ Ellipsis ∷ []

-- list = range (Comma range)* (Comma Ellipsis)?
abbrev pub IsSampleList : List Token → SampleList → Type 0
IsSampleList tokens l =
    (left : List Token) × (right : List Token)
    × (tokens ≡ left ++ right) × Separated Comma IsSampleRange left l.sample_ranges × IsEllipsis right l.ellipsis

-- a list with its type
pub record Section : Type 0 where
  pub type : Token
  pub list : SampleList

-- samples = (At (Integer | Decimal) list)*
abbrev pub AreSections : List Token → List Section → Type 0
AreSections tokens [] = tokens ≡ []
AreSections tokens (s ∷ ss) =
    (list : List Token) × (rest : List Token)
    × (tokens ≡ At ∷ s.type ∷ (list ++ rest)) × IsSampleType s.type × IsSampleList list s.list × AreSections rest ss

-- a list replaces an earlier one of its type
abbrev pub with_list : Token → SampleList → samples.Samples → samples.Samples
with_list Integer list old = record { integer = Some list; decimal = old.decimal }
with_list Decimal list old = record { integer = old.integer; decimal = Some list }
with_list _ list old = old

-- the samples of all lists: none without a list
abbrev pub samples_of : List Section → Option samples.Samples
samples_of [] = None
samples_of (s ∷ ss) = Some (fold (λ old new. with_list new.type new.list old) (record { integer = None; decimal = None }) (s ∷ ss))

-- ---- reading

-- the last range, if no ellipsis follows it
abbrev pub open_range : List Section → Option SampleRange
open_range sections = option_and_then (λ s. if s.list.ellipsis then None else last s.list.sample_ranges) (last sections)

-- the last sample of a range
abbrev pub last_sample : SampleRange → DecimalValue
last_sample r = unwrap_or r.upper_val r.lower_val

-- the bytes of `e`, `c` and `.`
abbrev pub letter_e : ℕ
letter_e = 101

abbrev pub letter_c : ℕ
letter_c = 99

abbrev pub point : ℕ
point = 46

-- the text of a sample has an exponent: an `e` or a `c`
abbrev pub has_exponent : DecimalValue → Bool
has_exponent text = list_any (λ b. b == letter_e || b == letter_c) text

-- it has a point
abbrev pub has_point : DecimalValue → Bool
has_point text = list_any (λ b. b == point) text

-- the sample can still take the token
abbrev pub Takes : DecimalValue → Token → Type 0
Takes text Dot = (has_exponent text ≡ false) × (has_point text ≡ false)
Takes text t = (has_exponent text ≡ false) × (IsDigits t ⊎ IsExponentMark t)

-- the token continues the samples
abbrev pub ContinuesSamples : List Section → Token → Type 0
ContinuesSamples sections At = Unit {0}
ContinuesSamples sections Comma = IsSome (open_range sections)
ContinuesSamples sections Tilde = IsSomeAnd (open_range sections) (λ r. r.upper_val ≡ None)
ContinuesSamples sections t = IsSomeAnd (open_range sections) (λ r. Takes (last_sample r) t)

-- the samples are read from the longest beginning of the tokens
abbrev pub ReadsSamples : List Token → Option samples.Samples → Type 0
ReadsSamples tokens s =
    (sections : List Section) × (spelled : List Token) × (rest : List Token) × (tokens ≡ spelled ++ rest) × AreSections spelled sections
    × IfSome (first rest) (λ t. ¬ (ContinuesSamples sections t)) × (s ≡ samples_of sections)

-- ---- faults

-- where a beginning of the samples waits for another token
pub data SamplePlace : Type 0 where
  after_at : SamplePlace
  before_sample : SamplePlace
  after_comma : SamplePlace
  after_mark : SamplePlace

-- sections, and then the tokens
abbrev pub SectionsThen : (List Section → Type 0) → List Token → List Token → Type 0
SectionsThen Here more tokens =
    (spelled : List Token) × (sections : List Section)
    × (tokens ≡ spelled ++ more) × AreSections spelled sections × Here sections

-- At after sections
abbrev pub IsAfterAt : List Token → Type 0
IsAfterAt tokens = SectionsThen (λ _. Unit {0}) (At ∷ []) tokens

-- a sample is expected: after a type, or after Tilde that follows a single sample
abbrev pub IsBeforeSample : List Token → Type 0
IsBeforeSample tokens =
    ((type : Token) × IsSampleType type × SectionsThen (λ _. Unit {0}) (At ∷ type ∷ []) tokens)
    ⊎ SectionsThen (λ sections. ContinuesSamples sections Tilde) (Tilde ∷ []) tokens

-- Comma after a list without an ellipsis
abbrev pub IsAfterComma : List Token → Type 0
IsAfterComma tokens = SectionsThen (λ sections. ContinuesSamples sections Comma) (Comma ∷ []) tokens

-- after E or C, in an empty sample or in one that can take it
abbrev pub IsAfterMark : List Token → Type 0
IsAfterMark tokens =
    (mark : Token) × IsExponentMark mark
    × (((before : List Token) × (tokens ≡ before ++ mark ∷ []) × (IsBeforeSample before ⊎ IsAfterComma before))
    ⊎ SectionsThen (λ sections. ContinuesSamples sections mark) (mark ∷ []) tokens)

-- the tokens are a beginning that waits at the place
abbrev pub WaitsInSamples : SamplePlace → List Token → Type 0
WaitsInSamples after_at tokens = IsAfterAt tokens
WaitsInSamples before_sample tokens = IsBeforeSample tokens
WaitsInSamples after_comma tokens = IsAfterComma tokens
WaitsInSamples after_mark tokens = IsAfterMark tokens

-- the fault where a type is expected
abbrev pub type_fault : Option Token → Option ParseError
type_fault (Some Integer) = None
type_fault (Some Decimal) = None
type_fault _ = Some ExpectedSampleType

-- the fault where a sample is expected
abbrev pub sample_fault : Option Token → Option ParseError
sample_fault (Some Dot) = None
sample_fault (Some E) = None
sample_fault (Some (Operand C)) = None
sample_fault t = value_fault t

-- the fault of the token that follows a place, or of the end
abbrev pub fault_in_samples : SamplePlace → Option Token → Option ParseError
fault_in_samples after_at t = type_fault t
fault_in_samples before_sample t = sample_fault t
fault_in_samples after_comma (Some Ellipsis) = None
fault_in_samples after_comma t = sample_fault t
fault_in_samples after_mark t = value_fault t

-- a beginning of the tokens waits, and what follows it has this fault
abbrev pub FaultyInSamples : List Token → ParseError → Type 0
FaultyInSamples tokens kind =
    (place : SamplePlace) × (before : List Token) × (rest : List Token)
    × (tokens ≡ before ++ rest) × WaitsInSamples place before × (fault_in_samples place (first rest) ≡ Some kind)

-- ---- a whole rule

-- a condition is read from the longest beginning, and the samples from what follows it
abbrev pub ReadsRule : List Token → Rule → Type 0
ReadsRule tokens rule = (rest : List Token) × ReadsUpTo tokens rule.condition rest × ReadsSamples rest rule.samples

-- a rule with this condition is read from the tokens
abbrev pub ReadsCondition : List Token → Condition → Type 0
ReadsCondition tokens condition = (rule : Rule) × ReadsRule tokens rule × (rule.condition ≡ condition)

-- the condition has the fault, or it is read and the samples have the fault
abbrev pub FaultyRule : List Token → ParseError → Type 0
FaultyRule tokens kind = Faulty tokens kind ⊎ ((c : Condition) × (rest : List Token) × ReadsUpTo tokens c rest × FaultyInSamples rest kind)

-- a condition or none, samples or none after it, and no other token
abbrev pub IsRule : List Token → Type 0
IsRule tokens =
    (condition : List Token) × (samples : List Token) × (tokens ≡ condition ++ samples)
    × ((condition ≡ []) ⊎ ((c : Condition) × IsCondition condition c))
    × ((sections : List Section) × AreSections samples sections)

-- the text is a rule: its tokens are
abbrev pub TextIsRule : List ℕ → Type 0
TextIsRule text = (tokens : List Token) × AreTokensOf text tokens × IsRule tokens
