-- What a pattern says with its arguments, under the rules for cardinal and for ordinal numbers.
-- Faults are looked for in this order: those of the rules, of the pattern, of the arguments in
-- themselves, and of the arguments where the pattern uses them.
--     IsPatternFormatted cardinal ordinal pattern arguments answer      what a text says
--     IsPackedFormatted cardinal ordinal block arguments answer      what a block says
--     IsCatalogSaid cardinal ordinal catalog key arguments answer      what the block under a key says, if there is one
use Rattle.std.specs.Prelude.{ℕ, List, Result, Ok, Err}
use Rattle.icu_plurals.specs.FiveRules.{FiveRules}
use Rattle.message_format.specs.FormatArguments.{Argument}
use Rattle.message_format.specs.FormatMeaning.{Said, Faulty, PatternSays}
use Rattle.message_format.specs.FormatSteps.{TwoRules}
use Rattle.message_pattern.specs.PatternParts.{Part}
use Rattle.plural_exports.specs.declared.arguments.GivenArgument.{GivenArgument}
use Rattle.plural_exports.specs.declared.fault.Fault.{Fault}
use Rattle.plural_exports.specs.declared.fault.Fault.TheVariants as fault
use Rattle.plural_exports.specs.GivenArguments.{AreArguments}
use Rattle.plural_exports.specs.GivenBytes.{ReadsRules}
use Rattle.plural_exports.specs.GivenPatterns.{FindsBlock, ReadsPatternBlock, ReadsPatternText}
use Rattle.plural_documents.specs.Steps.{Then}

-- what the pattern says, or the first fault of an argument; or memory ran out
abbrev pub IsPatternSaid : TwoRules → List Part → List Argument → Result (List ℕ) Fault → Type 0
IsPatternSaid rules parts arguments (Ok text) = PatternSays arguments rules parts (Said text)
IsPatternSaid rules parts arguments (Err (fault.Argument kind)) =
    (name : List ℕ) × PatternSays arguments rules parts (Faulty kind name)
IsPatternSaid rules parts arguments (Err fault.Memory) = Unit {0}
IsPatternSaid rules parts arguments (Err _) = ⊥

-- both rules
abbrev pub rules_of_both : FiveRules → FiveRules → TwoRules
rules_of_both cardinal ordinal = record { cardinal = cardinal; ordinal = ordinal }

-- what the pattern says that is read so
abbrev pub IsReadAndSaid : (Result (List Part) Fault → Type 0) → List ℕ → List ℕ → List GivenArgument → Result (List ℕ) Fault → Type 0
IsReadAndSaid Reads cardinal ordinal arguments =
    Then (ReadsRules cardinal) (λ five.
    Then (ReadsRules ordinal) (λ others.
    Then Reads (λ parts.
    Then (AreArguments arguments) (IsPatternSaid (rules_of_both five others) parts))))

abbrev pub IsPatternFormatted : List ℕ → List ℕ → List ℕ → List GivenArgument → Result (List ℕ) Fault → Type 0
IsPatternFormatted cardinal ordinal pattern arguments = IsReadAndSaid (ReadsPatternText pattern) cardinal ordinal arguments

abbrev pub IsPackedFormatted : List ℕ → List ℕ → List ℕ → List GivenArgument → Result (List ℕ) Fault → Type 0
IsPackedFormatted cardinal ordinal block arguments = IsReadAndSaid (ReadsPatternBlock block) cardinal ordinal arguments

abbrev pub IsCatalogSaid : List ℕ → List ℕ → List ℕ → List ℕ → List GivenArgument → Result (List ℕ) Fault → Type 0
IsCatalogSaid cardinal ordinal catalog key arguments =
    Then (FindsBlock catalog key) (λ block. IsPackedFormatted cardinal ordinal block arguments)
