-- What the calls return.
use Rattle.std.specs.Prelude.{◌≡◌, ℕ, List, Option, Result, Ok, Err, ⊤}
use Rattle.std.specs.Cow.{cow_str_bytes}
use Rattle.std.specs.declared.alloc.Global.{Global}
use Rattle.std.specs.declared.borrow.CowStr.{CowStr}
use Rattle.icu_plurals.specs.Written.{CompactNumber}
use Rattle.plural_queries.specs.Commands.{Command}
use Rattle.plural_queries.specs.QueryViews.{query_view}
use Rattle.plural_queries.specs.NumberWords.{ReadsNumberWord, IsNumberOf}
use Rattle.plural_queries.specs.Queries.{AsksDocument, CommandAsks, Query, of_document, truth}
use Rattle.plural_documents.specs.Inputs.{GivesBy, GivesByReading, IsFaultOfOrigin, Origin, from_reader, from_length, from_writer, from_memory, from_answer}
use Rattle.plural_documents.specs.Steps.{HasNoFault}
use Rattle.plural_queries.specs.declared.error.RunError.{RunError}
use Rattle.plural_queries.specs.declared.error.RunError.TheVariants.{Read, Memory, TooLong, Usage, Write}
use Rattle.plural_queries.specs.declared.query.Query.{Query as CodeQuery}
use Rattle.plural_documents.specs.declared.InputError.{InputError}
use Rattle.plural_documents.specs.declared.InputError.TheVariants as cause

-- ---- the faults of the program: where they come from, and its exit status

-- where a fault comes from; `IsRead` says what was read by then
abbrev pub run_origin : RunError → Origin
run_origin Read = from_reader
run_origin TooLong = from_length
run_origin Write = from_writer
run_origin Memory = from_memory
run_origin fault = from_answer

-- the exit status of the program
abbrev pub status_of : RunError → ℕ
status_of Usage = 2
status_of fault = 1

-- ---- Results

-- a fault of this kind, or out of memory; nothing is read or written
abbrev pub GivesRunFault : (RunError → Type 0) → RunError → Type 0
GivesRunFault IsFault fault = IsFaultOfOrigin (run_origin fault) (IsFault fault)

-- the result, in the words of the definitions, or out of memory
abbrev pub GivesAnswer : {A B : Type 0} → (A → B) → (Result B RunError → Type 0) → Result A RunError → Type 0
GivesAnswer seen = GivesBy run_origin seen

-- as `GivesAnswer`, with one possible result
abbrev pub GivesValue : {A B : Type 0} → (A → B) → Result B RunError → Result A RunError → Type 0
GivesValue seen value = GivesAnswer seen (λ answer. value ≡ answer)

-- ---- Texts

-- a borrowed or owned text
abbrev pub Text : Type 0
Text = CowStr Global

abbrev pub GivesAnswerText : (Result (List ℕ) RunError → Type 0) → Result Text RunError → Type 0
GivesAnswerText = GivesAnswer cow_str_bytes

-- as `GivesAnswerText`, of a call that reads, and may fail at it
abbrev pub GivesTextAfterReading : (Result (List ℕ) RunError → Type 0) → Result Text RunError → Type 0
GivesTextAfterReading = GivesByReading run_origin cow_str_bytes

-- ---- Words

-- a number, for a word without a fault, or the word's fault
abbrev pub GivesNumber : List ℕ → Result CompactNumber RunError → Type 0
GivesNumber word (Ok x) = IsNumberOf word x × HasNoFault (ReadsNumberWord word)
GivesNumber word (Err e) = GivesRunFault (λ fault. ReadsNumberWord word (Err fault)) e

-- the query needs a document
abbrev pub IsOfDocument : Query → Type 0
IsOfDocument (truth condition n) = ⊥
IsOfDocument (of_document lookup) = ⊤

-- a query of a document comes from a command that asks a document and has no fault; another query
-- from one that asks none
abbrev pub IsOfKind : Option Command → Query → Type 0
IsOfKind command (truth condition n) = ¬ (AsksDocument command)
IsOfKind command (of_document lookup) = AsksDocument command × HasNoFault (CommandAsks command)

-- what a command asks for, or the fault of its words
abbrev pub GivesQuery : Option Command → Result CodeQuery RunError → Type 0
GivesQuery command (Ok query) = CommandAsks command (Ok (query_view query)) × IsOfKind command (query_view query)
GivesQuery command (Err e) = GivesRunFault (λ fault. CommandAsks command (Err fault)) e

-- ---- The fault that an error of the input becomes

abbrev pub input_fault : InputError → RunError
input_fault cause.Read = Read
input_fault cause.TooLong = TooLong
input_fault cause.Memory = Memory
