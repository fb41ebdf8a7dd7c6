-- What the words of a command line ask for: a query, which is a command with its condition and its
-- numbers read.
--     Query, Lookup      a query, and a query of a document
--     Asks words asked      the words ask for this query, or have this as their first fault
--     NeedsInput words      the words have no fault, and ask for a query of a document
--     MayRunOut words      out of memory may be told of the words
use Rattle.std.specs.Prelude.{◌≡◌, ℕ, ◌<◌, ◌⊎◌, List, length, Option, Some, None, Result, Ok, Err, ⊤}
use Rattle.icu_plurals.specs.declared.PluralRuleType.{PluralRuleType}
use Rattle.icu_plurals.specs.declared.provider.rules.reference.ast.Condition.{Condition as Tree}
use Rattle.icu_plurals.specs.Written.{CompactNumber}
use Rattle.plural_queries.specs.Commands.{Command, command_of, test, category, range, print, select, message}
use Rattle.plural_queries.specs.NumberWords.{ReadsConditionWord, ReadsNumberWord, integer_of}
use Rattle.plural_documents.specs.Steps.{After, HasNoFault, Then}
use Rattle.plural_queries.specs.declared.error.RunError.{RunError}
use Rattle.plural_queries.specs.declared.error.RunError.TheVariants.{Usage}

-- A query of a document, for a locale and a type: the category of a number or of the range of two,
-- the rules, the element of a number, or the message of a number with its word.
pub data Lookup : Type 0 where
  number_category : List ℕ → PluralRuleType → CompactNumber → Lookup
  range_category : List ℕ → PluralRuleType → CompactNumber → CompactNumber → Lookup
  printed_rules : List ℕ → PluralRuleType → Lookup
  number_element : List ℕ → PluralRuleType → CompactNumber → Lookup
  number_message : List ℕ → PluralRuleType → CompactNumber → List ℕ → Lookup

-- a query: whether a condition is true of an integer, or a query of a document
pub data Query : Type 0 where
  truth : Tree → ℕ → Query
  of_document : Lookup → Query

-- this query is asked for
abbrev pub IsAsked : Query → Result Query RunError → Type 0
IsAsked query asked = asked ≡ Ok query

-- What a command asks for, or the first fault of its words: a condition's comes before an
-- integer's, a start's before an end's. Words that are no command have a fault of their own.
abbrev pub CommandAsks : Option Command → Result Query RunError → Type 0
CommandAsks None = λ asked. asked ≡ Err Usage
CommandAsks (Some (test condition integer)) =
    Then (ReadsConditionWord condition) (λ tree. After (λ n. IsAsked (truth tree n)) (integer_of integer))
CommandAsks (Some (category locale type number)) =
    Then (ReadsNumberWord number) (λ x. IsAsked (of_document (number_category locale type x)))
CommandAsks (Some (range locale type start end)) =
    Then (ReadsNumberWord start) (λ x. Then (ReadsNumberWord end) (λ y. IsAsked (of_document (range_category locale type x y))))
CommandAsks (Some (print locale type)) = IsAsked (of_document (printed_rules locale type))
CommandAsks (Some (select locale type number)) =
    Then (ReadsNumberWord number) (λ x. IsAsked (of_document (number_element locale type x)))
CommandAsks (Some (message locale type number)) =
    Then (ReadsNumberWord number) (λ x. IsAsked (of_document (number_message locale type x number)))

-- the query that the words ask for, or their first fault
abbrev pub Asks : List (List ℕ) → Result Query RunError → Type 0
Asks words = CommandAsks (command_of words)

-- the command asks for a query of a document
abbrev pub AsksDocument : Option Command → Type 0
AsksDocument None = ⊥
AsksDocument (Some (test condition integer)) = ⊥
AsksDocument (Some command) = ⊤

-- the answer depends on the input, not on the words alone
abbrev pub NeedsInput : List (List ℕ) → Type 0
NeedsInput words = AsksDocument (command_of words) × HasNoFault (Asks words)

-- ---- Memory

-- A number takes memory if it has no fault and its word has more than 16 bytes.
abbrev pub TakesMemory : List ℕ → Type 0
TakesMemory word = HasNoFault (ReadsNumberWord word) × (16 < length word)

-- Memory may run out while the words of a command are read: a condition takes some, and so does a
-- long number.
abbrev pub ReadingTakesMemory : Option Command → Type 0
ReadingTakesMemory None = ⊥
ReadingTakesMemory (Some (test condition integer)) = ⊤
ReadingTakesMemory (Some (category locale type number)) = TakesMemory number
ReadingTakesMemory (Some (range locale type start end)) =
    TakesMemory start ⊎ (HasNoFault (ReadsNumberWord start) × TakesMemory end)
ReadingTakesMemory (Some (print locale type)) = ⊥
ReadingTakesMemory (Some (select locale type number)) = TakesMemory number
ReadingTakesMemory (Some (message locale type number)) = TakesMemory number

-- Memory may run out while the words are read, or after, if they have no fault and need the input.
abbrev pub MayRunOut : List (List ℕ) → Type 0
MayRunOut words = ReadingTakesMemory (command_of words) ⊎ NeedsInput words
