-- Not a definition of the subject: a reader of samples, token by token, for the parser's private
-- contracts. That it returns what the grammar says is proved.
use Rattle.std.specs.Prelude.{Bool, true, false, List, [], ◌∷◌, ◌++◌, Option, Some, None, Result, Ok, Err, ◌||◌, cond, ◌≡◌, ◌≢◌}
use Rattle.std.specs.Prelude.{◌⊎◌, ℕ, IfSome, unwrap_or}
use Rattle.plural_operands.specs.declared.operand.Operand.TheVariants.{C}
use Rattle.plural_reference.specs.declared.ast.DecimalValue.{DecimalValue}
use Rattle.plural_reference.specs.declared.ast.SampleRange.{SampleRange}
use Rattle.plural_reference.specs.declared.error.ParseError.{ParseError}
use Rattle.plural_reference.specs.declared.error.ParseError.TheVariants.{ExpectedValue, ExpectedSampleType}
use Rattle.plural_reference.specs.declared.token.Token.{Token}
use Rattle.plural_reference.specs.declared.token.Token.TheVariants.{Operand, Number, Zero, Dot, Comma, At, Decimal, Integer}
use Rattle.plural_reference.specs.declared.token.Token.TheVariants.{Ellipsis, Tilde, E}
use Rattle.plural_reference.specs.Samples.{Section, token_text, has_exponent, has_point, IsExponentMark, Takes, type_fault}
use Rattle.plural_reference.specs.Samples.{samples_of, with_list}
use Rattle.plural_reference.specs.declared.ast.SampleList.{SampleList}
use Rattle.plural_reference.specs.declared.ast.Samples as samples
use Rattle.plural_reference.specs.declared.parser.samples.SampleType.{SampleType}
use Rattle.plural_reference.specs.declared.parser.samples.SampleType.TheVariants as types
use Rattle.plural_reference.specs.Lexer.{first}
use Rattle.plural_reference.specs.Parser.{value_fault}

-- what is complete before the sample that is being read
pub record Partial : Type 0 where
  pub sections : List Section
  pub type : Token
  pub ranges : List SampleRange
  pub lower : Option DecimalValue

-- what is expected, and what is complete
pub data SampleState : Type 0 where
  after_sections : List Section → SampleState
  behind_at : List Section → SampleState
  awaits_sample : Partial → SampleState
  behind_comma : Partial → SampleState
  in_sample : Partial → DecimalValue → SampleState
  behind_mark : Partial → DecimalValue → SampleState

-- the range that the sample ends
abbrev pub range_of : Option DecimalValue → DecimalValue → SampleRange
range_of None text = record { lower_val = text; upper_val = None }
range_of (Some lower) text = record { lower_val = lower; upper_val = Some text }

-- the sections with the one of these ranges
abbrev pub with_sections : Partial → List SampleRange → Bool → List Section
with_sections p ranges more = p.sections ++ (record { type = p.type; list = record { sample_ranges = ranges; ellipsis = more } }) ∷ []

-- the ranges with the one that the sample completes
abbrev pub ranges_with : Partial → DecimalValue → List SampleRange
ranges_with p text = p.ranges ++ (range_of p.lower text) ∷ []

-- a list that begins
abbrev pub begin_list : List Section → Token → Partial
begin_list sections type = record { sections = sections; type = type; ranges = []; lower = None }

-- what a token does: it leads on, ends the samples, or is a fault
pub data SampleMove : Type 0 where
  goes : SampleState → SampleMove
  ends : List Section → SampleMove
  refuses : ParseError → SampleMove

-- the token at which a sample is expected
abbrev pub sample_move : Partial → Token → SampleMove
sample_move p Zero = goes (in_sample p (token_text Zero))
sample_move p (Number n) = goes (in_sample p (token_text (Number n)))
sample_move p Dot = goes (in_sample p (token_text Dot))
sample_move p E = goes (behind_mark p (token_text E))
sample_move p (Operand C) = goes (behind_mark p (token_text (Operand C)))
sample_move p _ = refuses ExpectedValue

-- after a comma
abbrev pub comma_move : Partial → Token → SampleMove
comma_move p Ellipsis = goes (after_sections (with_sections p p.ranges true))
comma_move p t = sample_move p t

-- the token joins the sample, unless the sample can't take it
abbrev pub joins : Bool → SampleState → Partial → DecimalValue → SampleMove
joins full next p text = cond full (ends (with_sections p (ranges_with p text) false)) (goes next)

-- Tilde after a sample
abbrev pub tilde_move : Option DecimalValue → Partial → DecimalValue → SampleMove
tilde_move None p text = goes (awaits_sample (record p { lower = Some text }))
tilde_move (Some lower) p text = ends (with_sections p (ranges_with p text) false)

-- the token after a part of a sample
abbrev pub in_move : Partial → DecimalValue → Token → SampleMove
in_move p text Zero = joins (has_exponent text) (in_sample p (text ++ token_text Zero)) p text
in_move p text (Number n) = joins (has_exponent text) (in_sample p (text ++ token_text (Number n))) p text
in_move p text Dot = joins (has_exponent text || has_point text) (in_sample p (text ++ token_text Dot)) p text
in_move p text E = joins (has_exponent text) (behind_mark p (text ++ token_text E)) p text
in_move p text (Operand C) = joins (has_exponent text) (behind_mark p (text ++ token_text (Operand C))) p text
in_move p text Tilde = tilde_move p.lower p text
in_move p text Comma = goes (behind_comma (record p { ranges = ranges_with p text; lower = None }))
in_move p text At = goes (behind_at (with_sections p (ranges_with p text) false))
in_move p text _ = ends (with_sections p (ranges_with p text) false)

-- after the mark of an exponent
abbrev pub mark_move : Partial → DecimalValue → Token → SampleMove
mark_move p text Zero = goes (in_sample p (text ++ token_text Zero))
mark_move p text (Number n) = goes (in_sample p (text ++ token_text (Number n)))
mark_move p text _ = refuses ExpectedValue

-- after At
abbrev pub at_move : List Section → Token → SampleMove
at_move sections Integer = goes (awaits_sample (begin_list sections Integer))
at_move sections Decimal = goes (awaits_sample (begin_list sections Decimal))
at_move sections _ = refuses ExpectedSampleType

-- after whole sections
abbrev pub section_move : List Section → Token → SampleMove
section_move sections At = goes (behind_at sections)
section_move sections _ = ends sections

-- what a token does
abbrev pub sample_step : SampleState → Token → SampleMove
sample_step (after_sections sections) t = section_move sections t
sample_step (behind_at sections) t = at_move sections t
sample_step (awaits_sample p) t = sample_move p t
sample_step (behind_comma p) t = comma_move p t
sample_step (in_sample p text) t = in_move p text t
sample_step (behind_mark p text) t = mark_move p text t

-- what the end does
abbrev pub samples_at_end : SampleState → SampleMove
samples_at_end (after_sections sections) = ends sections
samples_at_end (behind_at sections) = refuses ExpectedSampleType
samples_at_end (awaits_sample p) = refuses ExpectedValue
samples_at_end (behind_comma p) = refuses ExpectedValue
samples_at_end (in_sample p text) = ends (with_sections p (ranges_with p text) false)
samples_at_end (behind_mark p text) = refuses ExpectedValue

-- the sections or the fault, and the remaining tokens
abbrev pub SampleOutcome : Type 0
SampleOutcome = Result (List Section × List Token) (ParseError × List Token)

-- what follows a move
abbrev pub sample_proceed : SampleMove → List Token → (SampleState → SampleOutcome) → SampleOutcome
sample_proceed (goes s) rest next = next s
sample_proceed (ends sections) rest next = Ok (sections, rest)
sample_proceed (refuses e) rest next = Err (e, rest)

-- what the reader returns from a state on
unfoldable pub run_samples : SampleState → List Token → SampleOutcome
run_samples s [] = sample_proceed (samples_at_end s) [] (λ _. Err (ExpectedValue, []))
run_samples s (t ∷ ts) = sample_proceed (sample_step s t) (t ∷ ts) (λ next. run_samples next ts)

-- ---- Not a definition of the subject: what the parts of the parser do that read samples, as steps
-- of the reader of samples. Their private contracts cite it, and no public clause does.

-- what is stored is what is read, if samples are stored
abbrev pub IsStored : {A : Type 0} → Bool → A → A → Type 0
IsStored true stored read = stored ≡ read
IsStored false stored read = Unit {0}

-- something is read, and it is what is stored if samples are
abbrev pub ReadsStored : {A : Type 0} → Bool → (List Token → A → List Token → Type 0) → List Token → A → List Token → Type 0
ReadsStored {A = A} keeps Read old stored new = (read : A) × IsStored keeps stored read × Read old read new

-- the token of a type of samples
abbrev pub type_token : SampleType → Token
type_token types.Integer = Integer
type_token types.Decimal = Decimal

-- the samples with one more list
abbrev pub joined_list : Option samples.Samples → Section → Option samples.Samples
joined_list old s = Some (with_list s.type s.list (unwrap_or old (record { integer = None; decimal = None })))

-- the state in a sample whose text so far is this
abbrev pub sample_at : Partial → DecimalValue → SampleState
sample_at p [] = awaits_sample p
sample_at p (b ∷ bs) = in_sample p (b ∷ bs)

-- the first token has this text, and is of this kind
abbrev pub TakesText : (Token → Type 0) → List Token → List ℕ → List Token → Type 0
TakesText Kind old text new = (t : Token) × (old ≡ t ∷ new) × Kind t × (token_text t ≡ text)

-- no digits come next
abbrev pub NoDigits : List Token → Type 0
NoDigits rest = value_fault (first rest) ≡ Some ExpectedValue

-- no mark of an exponent comes next
abbrev pub NoMark : List Token → Type 0
NoMark rest = IfSome (first rest) (λ t. ¬ (IsExponentMark t))

-- digits join a text that has no exponent
pub record ReadsDigits (before : DecimalValue) (old : List Token) (after : DecimalValue) (new : List Token) : Type 0 where
  pub run_is : (p : Partial) → run_samples (sample_at p before) old ≡ run_samples (sample_at p after) new
  pub no_mark : has_exponent after ≡ false
  pub same_point : has_point after ≡ has_point before
  pub nothing : after ≡ [] → new ≡ old

-- a sample without its exponent is read: no digits come next, nor a point that would fit
pub record ReadsNumber (old : List Token) (text : DecimalValue) (new : List Token) : Type 0 where
  pub run_is : (p : Partial) → run_samples (awaits_sample p) old ≡ run_samples (sample_at p text) new
  pub no_mark : has_exponent text ≡ false
  pub no_digits : NoDigits new
  pub no_point : first new ≡ Some Dot → has_point text ≡ true
  pub nothing : text ≡ [] → new ≡ old

-- an exponent joins a text
pub record JoinsExponent (before : DecimalValue) (old : List Token) (after : DecimalValue) (new : List Token) : Type 0 where
  pub run_is : (p : Partial) → run_samples (sample_at p before) old ≡ run_samples (in_sample p after) new
  pub a_mark : has_exponent after ≡ true

-- an exponent joins the text, or no mark of one comes next
abbrev pub ReadsExponent : DecimalValue → List Token → DecimalValue → List Token → Type 0
ReadsExponent before old after new = ((after ≡ before) × (new ≡ old) × NoMark old) ⊎ JoinsExponent before old after new

-- a whole sample is read: it can't take what comes next
pub record ReadsSample (old : List Token) (text : DecimalValue) (new : List Token) : Type 0 where
  pub run_is : (p : Partial) → run_samples (awaits_sample p) old ≡ run_samples (in_sample p text) new
  pub whole : IfSome (first new) (λ t. ¬ (Takes text t))

-- a range is read wherever one is expected; a comma may follow
pub record ReadsRange (old : List Token) (range : SampleRange) (new : List Token) : Type 0 where
  pub lower : Option DecimalValue
  pub text : DecimalValue
  pub range_is : range ≡ range_of lower text
  pub run_is : (p : Partial) → p.lower ≡ None
      → run_samples (awaits_sample p) old ≡ run_samples (in_sample (record p { lower = lower }) text) new
  pub whole : IfSome (first new) (λ t. ¬ (Takes text t))
  pub no_tilde : lower ≡ None → first new ≢ Some Tilde

-- the state in the last sample of a list
abbrev pub in_list : List Section → Token → List SampleRange → Option DecimalValue → DecimalValue → SampleState
in_list sections type front lower text = in_sample (record { sections = sections; type = type; ranges = front; lower = lower }) text

-- the ranges of a list are read; a comma may follow
pub record ReadsRanges (old : List Token) (ranges : List SampleRange) (new : List Token) : Type 0 where
  pub front : List SampleRange
  pub lower : Option DecimalValue
  pub text : DecimalValue
  pub ranges_are : ranges ≡ front ++ (range_of lower text) ∷ []
  pub run_is : (sections : List Section) (type : Token)
      → run_samples (awaits_sample (begin_list sections type)) old ≡ run_samples (in_list sections type front lower text) new
  pub whole : IfSome (first new) (λ t. ¬ (Takes text t))
  pub no_tilde : lower ≡ None → first new ≢ Some Tilde

-- a list is read after any sections, and ends
abbrev pub ReadsSampleList : List Token → SampleList → List Token → Type 0
ReadsSampleList old list new =
    (sections : List Section) (type : Token)
    → run_samples (awaits_sample (begin_list sections type)) old
    ≡ run_samples (after_sections (sections ++ (record { type = type; list = list }) ∷ [])) new

-- lists are read from the beginning; At may follow
pub record ReadsLists (old : List Token) (samples : Option samples.Samples) (new : List Token) : Type 0 where
  pub sections : List Section
  pub run_is : run_samples (after_sections []) old ≡ run_samples (after_sections sections) new
  pub samples_are : samples ≡ samples_of sections

-- all samples are read
pub record ReadsAllSamples (old : List Token) (samples : Option samples.Samples) (new : List Token) : Type 0 where
  pub sections : List Section
  pub run_is : run_samples (after_sections []) old ≡ Ok (sections, new)
  pub samples_are : samples ≡ samples_of sections

-- the reader stops with this fault before the remaining tokens, wherever a sample with this text so
-- far continues
abbrev pub FailsInSample : DecimalValue → List Token → List Token → ParseError → Type 0
FailsInSample before old new e = (p : Partial) → run_samples (sample_at p before) old ≡ Err (e, new)

-- the same wherever a sample is expected
abbrev pub FailsAtSample : List Token → List Token → ParseError → Type 0
FailsAtSample old new e = (p : Partial) → run_samples (awaits_sample p) old ≡ Err (e, new)

-- the same wherever a range is expected
abbrev pub FailsAtRange : List Token → List Token → ParseError → Type 0
FailsAtRange old new e = (p : Partial) → p.lower ≡ None → run_samples (awaits_sample p) old ≡ Err (e, new)

-- the same wherever a list is expected
abbrev pub FailsAtList : List Token → List Token → ParseError → Type 0
FailsAtList old new e =
    (sections : List Section) (type : Token) → run_samples (awaits_sample (begin_list sections type)) old ≡ Err (e, new)

-- no type of samples comes next, and nothing is taken
abbrev pub NoType : List Token → List Token → ParseError → Type 0
NoType old new e = (e ≡ ExpectedSampleType) × (type_fault (first old) ≡ Some ExpectedSampleType) × (new ≡ old)
