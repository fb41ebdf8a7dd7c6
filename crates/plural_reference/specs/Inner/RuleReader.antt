-- Not a definition of the subject: a reader of rules, made of the readers of tokens, of conditions
-- and of samples. Definitions of crates above cite it to have a text's condition as a function;
-- that it gives what the grammar says is the law `texts_are_read`.
use Rattle.std.specs.Prelude.{ℕ, List, [], Result, Ok, Err}
use Rattle.plural_reference.specs.declared.ast.Condition.{Condition}
use Rattle.plural_reference.specs.declared.ast.Rule.{Rule}
use Rattle.plural_reference.specs.declared.error.ParseError.{ParseError}
use Rattle.plural_reference.specs.declared.token.Token.{Token}
use Rattle.plural_reference.specs.Samples.{samples_of}
use Rattle.plural_reference.specs.Inner.Scan.{tokens_of}
use Rattle.plural_reference.specs.Inner.Reader.{run, begin, Outcome}
use Rattle.plural_reference.specs.Inner.SampleReading.SampleReader.{after_sections, run_samples, SampleOutcome}

-- what a whole rule gives
abbrev pub RuleOutcome : Type 0
RuleOutcome = Result Rule ParseError

-- the condition with the samples that are read after it
abbrev pub with_samples : Condition → SampleOutcome → RuleOutcome
with_samples c (Ok (sections, rest)) = Ok (record { condition = c; samples = samples_of sections })
with_samples c (Err (kind, rest)) = Err kind

-- the rule whose condition is read so
abbrev pub of_condition : Outcome → RuleOutcome
of_condition (Ok (c, rest)) = with_samples c (run_samples (after_sections []) rest)
of_condition (Err (kind, rest)) = Err kind

-- the rule of the tokens
abbrev pub rule_of : List Token → RuleOutcome
rule_of tokens = of_condition (run begin tokens)

-- the condition of a rule
abbrev pub without_samples : RuleOutcome → Result Condition ParseError
without_samples (Ok rule) = Ok rule.condition
without_samples (Err kind) = Err kind

-- the condition of the rule that a text is, or its fault
unfoldable pub condition_of_text : List ℕ → Result Condition ParseError
condition_of_text text = without_samples (rule_of (tokens_of text))
