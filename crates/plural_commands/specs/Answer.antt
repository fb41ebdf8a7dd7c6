-- The program's answer to the words of its command line and its input, and what it reads and
-- writes.
--     AnswersQuery query input answer      the answer to a query
--     AnswersWords words input answer      the answer to the words and the input
use Rattle.std.specs.Prelude.{◌≡◌, ℕ, List, Option, Result, Ok, Err, ⊤}
use Rattle.std.specs.Io.KnownBytes.{Appends, Keeps}
use Rattle.icu_plurals.specs.Operands.{of_whole}
use Rattle.icu_plurals.specs.Truth.{tree_truth}
use Rattle.plural_documents.specs.Inputs.{IsPartWritten}
use Rattle.plural_documents.specs.Steps.{After, Then}
use Rattle.plural_queries.specs.Input.{document_in}
use Rattle.plural_queries.specs.LookupAnswers.{AnswersLookup, truth_line}
use Rattle.plural_queries.specs.Queries.{Asks, Query, of_document, truth}
use Rattle.plural_queries.specs.declared.error.RunError.{RunError}
use Rattle.plural_queries.specs.declared.error.RunError.TheVariants.{Read, Write, Memory}

-- ---- The answer

-- The answer to a query: a truth value needs no input, and a fault of the input comes before those
-- of the lookup.
abbrev pub AnswersQuery : Query → List ℕ → Result (List ℕ) RunError → Type 0
AnswersQuery (truth condition n) input answer = answer ≡ Ok (truth_line (tree_truth (of_whole n) condition))
AnswersQuery (of_document lookup) input answer = After (AnswersLookup lookup) (document_in input) answer

-- the answer to the words and the input: a text, or the first fault
abbrev pub AnswersWords : List (List ℕ) → List ℕ → Result (List ℕ) RunError → Type 0
AnswersWords words input = Then (Asks words) (λ query. AnswersQuery query input)

-- ---- What is read and written

-- The result, and what the writer took: the answer's text and nothing else, or the answer's fault
-- and nothing at all. Out of memory, a failed read and a failed write come from outside; a failed
-- write took a beginning of the text, and nothing else.
abbrev pub IsAnswered : (Result (List ℕ) RunError → Type 0) → Option (List ℕ) → Option (List ℕ) → Result ⊤ RunError → Type 0
IsAnswered IsAnswer old new (Ok _) = (text : List ℕ) × IsAnswer (Ok text) × Appends old new text
IsAnswered IsAnswer old new (Err Memory) = Keeps old new
IsAnswered IsAnswer old new (Err Read) = Keeps old new
IsAnswered IsAnswer old new (Err Write) = (text : List ℕ) × IsAnswer (Ok text) × IsPartWritten old new text
IsAnswered IsAnswer old new (Err fault) = IsAnswer (Err fault) × Keeps old new

-- no read error is returned
abbrev pub IsNotRead : {A : Type 0} → Result A RunError → Type 0
IsNotRead (Err Read) = ⊥
IsNotRead result = ⊤
