-- What a text is read as is determined.
use Rattle.std.specs.Prelude.{◌≡◌, ◌⊎◌, ◌↔◌, ℕ, List, Ok, Err}
use Rattle.plural_reference.specs.declared.ast.Condition.{Condition}
use Rattle.plural_reference.specs.declared.error.ParseError.{ParseError}
use Rattle.plural_reference.specs.declared.token.Token.{Token}
use Rattle.plural_reference.specs.Lexer.{IsCut, AreTokensOf, TextReads, TextFaulty}
use Rattle.plural_reference.specs.Parser.{Reads, Faulty}
use Rattle.plural_reference.specs.Samples.{ReadsRule, ReadsCondition, FaultyRule}
use Rattle.plural_operands.specs.OperandLaws.{ThereIsOne}
use Rattle.plural_reference.specs.Inner.RuleReader.{condition_of_text}

-- every text is cut in exactly one way
abbrev pub HaveOneCut : Type 0
HaveOneCut = (text : List ℕ) → ThereIsOne (IsCut text)

-- every text has exactly one list of tokens
abbrev pub HaveOneListOfTokens : Type 0
HaveOneListOfTokens = (text : List ℕ) → ThereIsOne (AreTokensOf text)

-- one value is read from the tokens and they have no fault, or they have one fault and nothing is
-- read
abbrev pub HasOneReading : {A : Type 0} → (List Token → A → Type 0) → (List Token → ParseError → Type 0) → List Token → Type 0
HasOneReading {A = A} Read Fault tokens =
    (ThereIsOne (Read tokens) × ((kind : ParseError) → ¬ (Fault tokens kind)))
    ⊎ (ThereIsOne (Fault tokens) × ((x : A) → ¬ (Read tokens x)))

-- from every list of tokens one condition is read, or it has one fault
abbrev pub HaveOneReading : Type 0
HaveOneReading = (tokens : List Token) → HasOneReading Reads Faulty tokens

-- from every list of tokens one rule is read, or it has one fault
abbrev pub HaveOneRule : Type 0
HaveOneRule = (tokens : List Token) → HasOneReading ReadsRule FaultyRule tokens

-- of every text, the reader of rules gives the condition that is read, and the fault that the text
-- has
abbrev pub TextsAreRead : Type 0
TextsAreRead =
    (text : List ℕ)
    → ((c : Condition) → TextReads ReadsCondition text c ↔ (condition_of_text text ≡ Ok c))
    × ((kind : ParseError) → TextFaulty FaultyRule text kind ↔ (condition_of_text text ≡ Err kind))
