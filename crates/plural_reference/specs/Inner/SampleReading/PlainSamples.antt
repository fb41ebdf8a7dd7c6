-- Not a definition of the subject: what the bytes of samples lead to, for the private contracts of
-- the walk that leaves samples out.
use Rattle.std.specs.Prelude.{ℕ, suc, ◌≡◌, ◌≢◌, ◌≤◌, ◌⊎◌, List, [], ◌∷◌, ◌++◌, length, Option, IfSome, IsSomeAnd}
use Rattle.std.specs.Char.{IsAsciiDigit}
use Rattle.std.specs.List.{AllByRecursion}
use Rattle.plural_reference.specs.declared.ast.SampleList.{SampleList}
use Rattle.plural_reference.specs.declared.ast.Samples as samples
use Rattle.plural_reference.specs.declared.parser.samples.plain.Next.{Next}
use Rattle.plural_reference.specs.declared.parser.samples.plain.Next.TheVariants as next
use Rattle.plural_reference.specs.declared.token.Token.{Token}
use Rattle.plural_reference.specs.declared.token.Token.TheVariants.{Ellipsis}
use Rattle.plural_reference.specs.Lexer.{first}
use Rattle.plural_reference.specs.Samples.{IsDigits, IsFraction, IsSampleType, IsSampleList, AreSections, Section}
use Rattle.plural_reference.specs.Inner.SampleReading.SampleReader.{ReadsAllSamples}
use Rattle.plural_reference.specs.Inner.Scan.{tokens_of}

-- all digits at the front of the text, and the rest
pub record HasRun (text rest : List ℕ) : Type 0 where
  pub front : List ℕ
  pub digits : AllByRecursion IsAsciiDigit front
  pub spelled : text ≡ front ++ rest
  pub whole : IfSome (first rest) (λ b. ¬ (IsAsciiDigit b))

-- ... of which there are 1 to 9
pub record HasShortRun (text rest : List ℕ) : Type 0 where
  pub run : HasRun text rest
  pub nonempty : run.front ≢ []
  pub few : length run.front ≤ 9

-- the first byte is a digit
abbrev pub BeginsWithDigit : List ℕ → Type 0
BeginsWithDigit text = IsSomeAnd (first text) IsAsciiDigit

-- the tokens of the text begin with some of this kind, and those of the rest follow
abbrev pub Begins : (List Token → Type 0) → List ℕ → List ℕ → Type 0
Begins Kind text rest = (ts : List Token) × Kind ts × (tokens_of text ≡ ts ++ tokens_of rest)

-- one token of digits
abbrev pub IsRun : List Token → Type 0
IsRun ts = (t : Token) × (ts ≡ t ∷ []) × IsDigits t

-- one or more tokens of digits
abbrev pub AreRuns : List Token → Type 0
AreRuns ts = (ts ≢ []) × AllByRecursion IsDigits ts

-- digits, and a point and digits or none
abbrev pub IsNumber : List Token → Type 0
IsNumber ts = (whole : List Token) × (fraction : List Token) × (ts ≡ whole ++ fraction) × AreRuns whole × IsFraction fraction

-- the type of a list
abbrev pub IsType : List Token → Type 0
IsType ts = (t : Token) × (ts ≡ t ∷ []) × IsSampleType t

-- lists of samples, or none
abbrev pub AreLists : List Token → Type 0
AreLists ts = (sections : List Section) × AreSections ts sections

-- samples are read
abbrev pub HasSamples : List Token → Type 0
HasSamples old = (samples : Option samples.Samples) × (new : List Token) × ReadsAllSamples old samples new

-- a list without its type, and further lists
abbrev pub IsListThenLists : List Token → Type 0
IsListThenLists ts = (list : List Token) × (more : List Token) × (x : SampleList) × (ts ≡ list ++ more) × IsSampleList list x × AreLists more

-- what follows a comma in samples: an ellipsis that ends the list, or further ranges
abbrev pub FollowsComma : List Token → Type 0
FollowsComma ts = ((more : List Token) × (ts ≡ Ellipsis ∷ more) × AreLists more) ⊎ IsListThenLists ts

-- the aim is reached, if it is reached from what is left
abbrev pub LeadsTo : Type 0 → Next → Type 0
LeadsTo Aim (next.Sample rest) = FollowsComma (tokens_of rest.now) → Aim
LeadsTo Aim next.End = Aim
LeadsTo Aim next.Other = Unit {0}

-- how many bytes are left, with one more for the step
abbrev pub bytes_left : Next → ℕ
bytes_left (next.Sample rest) = suc (length rest.now)
bytes_left next.End = 0
bytes_left next.Other = 0
