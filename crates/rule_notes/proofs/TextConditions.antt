-- What the condition of a text is.
use Rattle.std.proofs.Common.{◌≡◌, ℕ, ◌≤◌, List, length, Some, None, Ok, Err, inr, subst}
use Rattle.std.proofs.lemmas.Bool.{le-ltb}
use Rattle.plural_reference.specs.Lexer.{AreTokensOf}
use Rattle.plural_reference.specs.Reading.{AnswersExactly}
use Rattle.plural_reference.specs.Samples.{FaultyRule, ReadsCondition}
use Rattle.plural_reference.specs.declared.ast.Condition.{Condition}
use Rattle.plural_reference.specs.declared.error.ParseError.{ParseError}
use Rattle.plural_reference.specs.declared.error.ReadError.TheVariants.{Parse}
use Rattle.plural_reference.specs.declared.token.Token.{Token}
use Rattle.rule_notes.specs.RuleNotes.{HasCondition}

pub has_condition : (text bytes : List ℕ) (tokens : List Token) (condition : Condition) → bytes ≡ text → length text ≤ 1024
    → AreTokensOf bytes tokens → AnswersExactly ReadsCondition FaultyRule bytes (Ok condition) → HasCondition (Some text) (Some condition)
has_condition text bytes tokens condition is few are exact = (
  le-ltb 1024 (length text) few,
  (tokens, subst (λ (t : List ℕ). AreTokensOf t tokens) is are, exact.only tokens are),
)

pub has_none : (text bytes : List ℕ) (tokens : List Token) (fault : ParseError) → bytes ≡ text → AreTokensOf bytes tokens
    → AnswersExactly ReadsCondition FaultyRule bytes (Err (Parse fault)) → HasCondition (Some text) None
has_none text bytes tokens fault is are exact =
    inr (fault, (tokens, subst (λ (t : List ℕ). AreTokensOf t tokens) is are, exact.only tokens are))
