-- Not a definition of the subject: words, and what they ask, in the words of the definitions.
use Rattle.std.specs.Prelude.{ℕ, List, map, Result, Ok, Err}
use Rattle.std.specs.Borrow.{Bor}
use Rattle.document_formats.specs.CheckWords.{Asked, WordFault, bad_format, bad_option, help, no_format, reports, version}
use Rattle.document_formats.specs.declared.word_fault.WordFault.{WordFault as CodeFault}
use Rattle.document_formats.specs.declared.word_fault.WordFault.TheVariants as wrong
use Rattle.document_formats.specs.declared.words.Asked.{Asked as CodeAsked}
use Rattle.document_formats.specs.declared.words.Asked.TheVariants as code

abbrev pub check_words_view : List (Bor (List ℕ)) → List (List ℕ)
check_words_view words = map (λ w. w.now) words

abbrev pub word_fault_view : CodeFault → WordFault
word_fault_view wrong.NoFormat = no_format
word_fault_view (wrong.Format word) = bad_format word.now
word_fault_view (wrong.Option word) = bad_option word.now

abbrev pub request_view : CodeAsked → Asked
request_view code.Help = help
request_view code.Version = version
request_view (code.Reports format files) = reports format (check_words_view files.now)

abbrev pub asked_view : Result CodeAsked CodeFault → Result Asked WordFault
asked_view (Ok asked) = Ok (request_view asked)
asked_view (Err fault) = Err (word_fault_view fault)
