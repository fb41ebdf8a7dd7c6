-- Answers by a document that serves a locale as another one does.
use Rattle.std.proofs.Common.{◌≡◌, ℕ, ◌≤◌, List, [], length, Option, Result, Ok, Err, inl, inr, refl, sym, subst, ◌∙◌, String}
use Rattle.std.proofs.Common.{Global, string_bytes}
use Rattle.std.specs.Prelude.{IfOk}
use Rattle.std.proofs.KnownBytes.{Keeps-refl}
use Rattle.std.specs.declared.alloc.AllocError.{AllocError}
use Rattle.plural_documents.specs.Inputs.{most_bytes}
use Rattle.plural_fallback.specs.declared.error.FallbackError.{FallbackError}
use Rattle.plural_fallback.specs.declared.locales.Part.{Part}
use Rattle.serde_json.specs.Data.{Data}
use Rattle.serde_json.specs.View.{view}
use Rattle.rules_outline.specs.KeptRules.{Serves, ServesAt, key_by}
use Rattle.rules_outline.specs.LocaleKeys.{value_at_key}
use Rattle.rules_outline.specs.declared.outline.KeptRules.{KeptRules}
use Rattle.number_lines.specs.PrintedTexts.{PrintedText}
use Rattle.form_commands.specs.FormsAnswers.{Answers, IsAnsweredLines, IsAnsweredText}
use Rattle.form_commands.specs.Inner.NoteSteps.{IsKeptNote, NotesAfter, Writes, note_of_key}
use Rattle.form_commands.specs.Inner.RunSteps.{AnswersFirst, AnswersLines, GivesRules, GivesRulesIn, IsFoundBy, IsFoundUnderKey}
use Rattle.form_commands.specs.KeyNotes.{IsKeyNote, IsNote}
use Rattle.form_commands.specs.Languages.{IsFoundAt, IsFoundFor, IsKnownForPart, IsFaultByte}
use Rattle.form_commands.specs.declared.error.FormsError.{FormsError}
use Rattle.form_commands.specs.declared.error.FormsError.TheVariants.{Memory}
use Rattle.form_commands.specs.declared.error.LanguageError.{LanguageError}
use Rattle.form_commands.specs.declared.error.Verdict.{Verdict}
use Rattle.form_commands.specs.declared.language.LanguageRules as code
use Rattle.form_commands.proofs.AnswerLemmas.{document_in, no_answer, no_lines}

-- ---- The document

-- the bytes are those of the input
pub rules_in : (part : Part) (locale input bytes : List ℕ) (r : Result KeptRules FormsError) → bytes ≡ input → length input ≤ most_bytes
    → GivesRulesIn part locale bytes r → GivesRules part locale input r
rules_in part locale input bytes (Ok kept) is short given = (given.0, (short, rw (← is) given.1), given.2, given.3)
rules_in part locale input bytes (Err error) is short (inl none) = inl (document_in input bytes (Err error) is short none)
rules_in part locale input bytes (Err error) is short (inr unknown) = inr (unknown.0, (short, rw (← is) unknown.1), unknown.2)

-- an unknown language is the answer
pub unknown_answer : (Prints : code.LanguageRules → PrintedText → Type 0) (part : Part) (locale input : List ℕ) (old : Option (List ℕ))
    (error : FormsError) → GivesRules part locale input (Err error)
    → IsAnsweredText (Answers Prints part locale) input old old (Err error)
unfolding IsAnsweredText
unknown_answer Prints part locale input old error (inl none) = no_answer (Answers Prints part locale) input old error none
unknown_answer Prints part locale input old error (inr (whole, given, (unknown, is))) =
    rw is (whole, given, inl (unknown, refl), Keeps-refl old)

pub unknown_lines : (part : Part) (locale input : List ℕ) (before old : Option (List ℕ)) (error : FormsError)
    → GivesRules part locale input (Err error) → IsAnsweredLines part locale input before before old old (Err error)
unfolding IsAnsweredLines
unknown_lines part locale input before old error (inl none) = no_lines part locale input before old error none
unknown_lines part locale input before old error (inr (whole, given, (unknown, is))) =
    rw is (whole, given, inl (unknown, refl), (Keeps-refl before, Keeps-refl old))

-- ---- The answers

module _ (part : Part) (locale : List ℕ) (kept : KeptRules) (whole : Data) (serves : Serves part locale kept whole)
    (known : IsKnownForPart whole part locale) where
  found_at : (key : List ℕ) (answer : Result code.LanguageRules LanguageError) → value_at_key (view kept.document) part key ≡ value_at_key whole part key
      → IsFoundAt (view kept.document) part key answer → IsFoundAt whole part key answer
  found_at key (Ok language) alike at = (at.0, sym alike ∙ at.1, at.2)
  found_at key (Err error) alike at =
      (at.0, at.1, rw (← alike) at.2, subst (λ (value : Option Data). IsFaultByte value at.0 at.1) alike at.3, at.4)

  found_by : (answer : Result code.LanguageRules LanguageError) → IsFoundBy kept part locale answer → IsFoundFor whole part locale answer
  found_by answer = by (key_by string_bytes kept.key) serves
    where
      by : (first : Result (List ℕ) FallbackError) → ServesAt part locale (view kept.document) whole first
          → IsFoundUnderKey (view kept.document) part locale first answer → IsFoundFor whole part locale answer
      by (Ok key) served at = inl (key, served.0, found_at key answer served.1 at)
      by (Err reason) served is = inr (reason, served, is)

  -- the note is that of the first key
  noted_by : (note : List ℕ) → IsKeptNote kept part locale note → IsKeyNote whole [] part locale note
  noted_by note = by kept.key serves
    where
      by : (key : Result (String Global) FallbackError) → ServesAt part locale (view kept.document) whole (key_by string_bytes key)
          → note ≡ note_of_key part locale key → IsKeyNote whole [] part locale note
      by (Ok key) served is = inl (string_bytes key, served.0, is)
      by (Err reason) served is = inr (reason, served, is)

  answer_served : (Prints : code.LanguageRules → PrintedText → Type 0) (answer : Result PrintedText LanguageError)
      → AnswersFirst Prints (IsFoundBy kept part locale) answer → Answers Prints part locale whole answer
  answer_served Prints (Ok printed) is = (is.0, inr (known, found_by (Ok is.0) is.1), is.2)
  answer_served Prints (Err error) is = inr (known, found_by (Err error) is)

  pub printed_served : (Prints : code.LanguageRules → PrintedText → Type 0) (answer : Result (Result PrintedText LanguageError) AllocError)
      → IfOk answer (λ a. AnswersFirst Prints (IsFoundBy kept part locale) a) → IfOk answer (λ a. Answers Prints part locale whole a)
  printed_served Prints (Ok answer) is = answer_served Prints answer is
  printed_served Prints (Err error) is = is

  notes_after : (A B : Result Verdict FormsError → Type 0) → ((r : Result Verdict FormsError) → A r → B r)
      → (old new : Option (List ℕ)) (r : Result Verdict FormsError) → NotesAfter A (IsKeptNote kept part locale) old new r
      → NotesAfter B (IsNote whole [] part locale) old new r
  notes_after A B answers old new r (inl n) = inl (n.0, n.1, answers n.0 n.2, inl (known, noted_by n.1 n.3), n.4)
  notes_after A B answers old new r (inr n) = inr (answers (Err Memory) n.0, n.1, n.2)

  -- a text and its notes
  pub text_served : (Prints : code.LanguageRules → PrintedText → Type 0) (old new before after : Option (List ℕ)) (r : Result Verdict FormsError)
      → NotesAfter (Writes (AnswersFirst Prints (IsFoundBy kept part locale)) old new) (IsKeptNote kept part locale) before after r
      → NotesAfter (Writes (Answers Prints part locale whole) old new) (IsNote whole [] part locale) before after r
  text_served Prints old new before after r is =
      notes_after (Writes (AnswersFirst Prints (IsFoundBy kept part locale)) old new) (Writes (Answers Prints part locale whole) old new)
      (λ answer written. (written.0, printed_served Prints written.0 written.1, written.2)) before after r is

  lines_by : (taken left old new : Option (List ℕ)) (r : Result Verdict FormsError)
      → AnswersLines (IsFoundBy kept part locale) taken left old new r → AnswersLines (IsFoundFor whole part locale) taken left old new r
  lines_by taken left old new r (inl by) = inl (by.0, found_by (Ok by.0) by.1, by.2)
  lines_by taken left old new r (inr (inl none)) = inr (inl (none.0, found_by (Err none.0) none.1, none.2, none.3))
  lines_by taken left old new r (inr (inr none)) = inr (inr none)

  -- the lines of another input and their notes
  pub lines_served : (taken left old new before after : Option (List ℕ)) (r : Result Verdict FormsError)
      → NotesAfter (AnswersLines (IsFoundBy kept part locale) taken left old new) (IsKeptNote kept part locale) before after r
      → NotesAfter (AnswersLines (IsFoundFor whole part locale) taken left old new) (IsNote whole [] part locale) before after r
  lines_served taken left old new before after r is =
      notes_after (AnswersLines (IsFoundBy kept part locale) taken left old new)
      (AnswersLines (IsFoundFor whole part locale) taken left old new)
      (λ answer by. lines_by taken left old new answer by) before after r is
