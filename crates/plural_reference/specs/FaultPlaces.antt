-- Where a rule's fault is: at the first byte of the token that doesn't continue the rule, or at the
-- end of the text.
--     FaultyAt tokens kind rest      the condition has the fault, and these tokens are left there
--     FaultyInSamplesAt tokens kind rest      the same of samples
--     FaultyRuleAt tokens kind rest      the same of a rule
--     StandsAt text byte rest      these tokens are left of the text from the byte on
--     TextFaultyAt text kind byte      the text has the fault at the byte
--     TextIsRead text      a rule is read from the text
-- The kinds of fault are those of `Faulty`, `FaultyInSamples` and `FaultyRule`.
use Rattle.std.specs.Prelude.{◌≡◌, ◌≢◌, ◌⊎◌, ℕ, List, ◌++◌, Some, None, IfSome, length}
use Rattle.std.specs.List.{filter_map, flat_map}
use Rattle.plural_reference.specs.declared.ast.Condition.{Condition}
use Rattle.plural_reference.specs.declared.ast.Rule.{Rule}
use Rattle.plural_reference.specs.declared.error.ParseError.{ParseError}
use Rattle.plural_reference.specs.declared.token.Token.{Token}
use Rattle.plural_reference.specs.Lexer.{first, Piece, IsCut, AreTokensOf, TextReads}
use Rattle.plural_reference.specs.Parser.{Place, Waits, ReadsUpTo, fault}
use Rattle.plural_reference.specs.Samples.{SamplePlace, WaitsInSamples, ReadsRule, fault_in_samples}

-- a beginning of the tokens waits, and what is left after it has this fault
abbrev pub FaultyAt : List Token → ParseError → List Token → Type 0
FaultyAt tokens kind rest =
    (place : Place) × (before : List Token)
    × (tokens ≡ before ++ rest) × Waits place before × (fault place (first rest) ≡ Some kind)

-- the same of samples
abbrev pub FaultyInSamplesAt : List Token → ParseError → List Token → Type 0
FaultyInSamplesAt tokens kind rest =
    (place : SamplePlace) × (before : List Token)
    × (tokens ≡ before ++ rest) × WaitsInSamples place before × (fault_in_samples place (first rest) ≡ Some kind)

-- the condition has the fault there, or it is read and the samples have the fault there
abbrev pub FaultyRuleAt : List Token → ParseError → List Token → Type 0
FaultyRuleAt tokens kind rest =
    FaultyAt tokens kind rest
    ⊎ ((c : Condition) × (middle : List Token) × ReadsUpTo tokens c middle × FaultyInSamplesAt middle kind rest)

-- so many bytes of the text are whole pieces, and these are the tokens of the pieces after them, of
-- which the first, if there is one, is no space
pub record StandsAt (text : List ℕ) (byte : ℕ) (rest : List Token) : Type 0 where
  pub before : List Piece
  pub after : List Piece
  pub cut : IsCut text (before ++ after)
  pub byte_is : byte ≡ length (flat_map (λ (p : Piece). p.0) before)
  pub no_space : IfSome (first after) (λ (p : Piece). p.1 ≢ None)
  pub tokens_are : rest ≡ filter_map (λ p. p.1) after

-- the text has the fault at the byte
abbrev pub TextFaultyAt : List ℕ → ParseError → ℕ → Type 0
TextFaultyAt text kind byte =
    (tokens : List Token) × (rest : List Token)
    × AreTokensOf text tokens × FaultyRuleAt tokens kind rest × StandsAt text byte rest

-- a rule is read from the text
abbrev pub TextIsRead : List ℕ → Type 0
TextIsRead text = (rule : Rule) × TextReads ReadsRule text rule
