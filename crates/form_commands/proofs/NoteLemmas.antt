-- Notes of keys, one after the other, and after an answer.
use Rattle.std.proofs.Common.{◌≡◌, ℕ, ◌+◌, ◌<◌, List, [], ◌∷◌, ◌++◌, length, get_or, drop, Option, Result, Ok, Err, inl, inr}
use Rattle.std.proofs.Common.{refl, sym, ap, subst, ◌∙◌, append_assoc, add-one, arith, String, Global}
use Rattle.std.specs.Prelude.{◌⊎◌, Bool, true, false, not, Some, IfOk, string_bytes}
use Rattle.std.specs.declared.alloc.AllocError.{AllocError}
use Rattle.std.specs.Io.KnownBytes.{Appends}
use Rattle.std.proofs.KnownBytes.{Keeps-refl}
use Rattle.std.proofs.Math.Seq.{drop-cons}
use Rattle.std.proofs.lemmas.List.{append-nil}
use Rattle.message_report.specs.FoundInMessages.{MessageFound}
use Rattle.message_report.specs.declared.file.MessageFile.{MessageFile}
use Rattle.plural_documents.specs.Inputs.{IsPartWritten}
use Rattle.plural_fallback.specs.UnknownLanguages.{is_unknown}
use Rattle.plural_fallback.specs.declared.locales.Part.{Part}
use Rattle.plural_fallback.specs.declared.locales.Part.TheVariants.{Cardinal, Ordinal}
use Rattle.serde_json.specs.Data.{Data, Members, no_members, member}
use Rattle.serde_json.specs.View.{members_view}
use Rattle.serde_json.specs.declared.Value.{Value}
use Rattle.rules_outline.specs.LocaleKeys.{IsKeyOf}
use Rattle.number_lines.specs.InputLines.{input_lines_of}
use Rattle.number_lines.specs.PrintedTexts.{PrintedText}
use Rattle.form_commands.specs.FormsAnswers.{IsAnsweredLines, IsAnsweredText, IsCheckedAs, IsDocumentIn, IsStreamed}
use Rattle.form_commands.specs.Inner.NoteSteps.{Notes, NotesAfter, Writes}
use Rattle.form_commands.specs.Inner.RunSteps.{AnswersLines, Checks}
use Rattle.form_commands.specs.Inner.ConditionSteps.{Grows}
use Rattle.form_commands.specs.KeyNotes.{AreFileNotes, AreLocaleNotes, AreMemberNotes, AreNoted, IsFileNote, IsKeyNote, IsNote}
use Rattle.form_commands.specs.KeyNotes.{IsNoted, IsNoteIf, has_any_member, is_asked, key_note_text}
use Rattle.form_commands.specs.Languages.{IsFoundFor, IsKnownForPart, IsKnownIn}
use Rattle.form_commands.specs.declared.error.FormsError.{FormsError}
use Rattle.form_commands.specs.declared.error.FormsError.TheVariants.{Memory}
use Rattle.form_commands.specs.declared.error.LanguageError.{LanguageError}
use Rattle.form_commands.specs.declared.error.Verdict.{Verdict}
use Rattle.form_commands.proofs.AnswerLemmas.{document_answered, lines_answered, report_checked}

-- ---- A locale

-- a first key that isn't `root`, or another one, is known
pub known_key : (document : Data) (part : Part) (locale key : List ℕ) → IsKeyOf document part locale key
    → (is_unknown locale key ≡ false) ⊎ IsKnownIn document locale → IsKnownForPart document part locale
known_key document part locale key first (inl another) = inl (inl (key, first, another))
known_key document part locale key first (inr known) = inr known

-- ---- The locales of a document

-- whether an object has members
pub some_there : (entries : List (String Global × Value)) (is_empty : Bool) → (length entries ≡ 0 → is_empty ≡ true)
    → (is_empty ≡ true → length entries ≡ 0) → not is_empty ≡ has_any_member (Some (members_view entries))
some_there [] is_empty from to = rw (from refl) refl
some_there (entry ∷ entries) true from to = absurd (omega (arith, to refl))
some_there (entry ∷ entries) false from to = refl

-- the notes for cardinal numbers, and then those for ordinal ones
pub two_notes : (document : Data) (place locale : List ℕ) (value : Data) (old mid new : List ℕ)
    → Grows (IsNoteIf (is_asked Cardinal value) (IsNote document place Cardinal locale)) old mid
    → Grows (IsNoteIf (is_asked Ordinal value) (IsNote document place Ordinal locale)) mid new
    → Grows (AreLocaleNotes document place locale value) old new
two_notes document place locale value old mid new a b = (
  a.0 ++ b.0,
  (a.0, b.0, a.1, b.1, refl),
  b.2 ∙ ap (λ (t : List ℕ). t ++ b.0) a.2 ∙ append_assoc old a.0 b.0,
)

-- with the notes of the members that are left, the notes of all are complete
abbrev pub MembersLeft : Data → List ℕ → Members → Members → List ℕ → List ℕ → Type 0
MembersLeft document place left all now first =
    (rest : List ℕ) → AreMemberNotes document place left rest
    → (whole : List ℕ) × AreMemberNotes document place all whole × (now ++ rest ≡ first ++ whole)

pub members_begin : (document : Data) (place : List ℕ) (all left : Members) (first : List ℕ) → left ≡ all
    → MembersLeft document place left all first first
members_begin document place all left first same rest h =
    (rest, subst (λ (ms : Members). AreMemberNotes document place ms rest) same h, refl)

pub members_go_on : (document : Data) (place : List ℕ) (all : Members) (first locale : List ℕ) (value : Data) (left : Members)
    (now next : List ℕ)
    → MembersLeft document place (member locale value left) all now first → Grows (AreLocaleNotes document place locale value) now next
    → MembersLeft document place left all next first
members_go_on document place all first locale value left now next so_far added rest h =
    let whole = so_far (added.0 ++ rest) (added.0, rest, added.1, h, refl) in
    (whole.0, whole.1, ap (λ (t : List ℕ). t ++ rest) added.2 ∙ append_assoc now added.0 rest ∙ whole.2)

pub members_end : (document : Data) (place : List ℕ) (all : Members) (first now : List ℕ)
    → MembersLeft document place no_members all now first → Grows (AreMemberNotes document place all) first now
members_end document place all first now so_far =
    let whole = so_far [] refl in (whole.0, whole.1, sym (append-nil now) ∙ whole.2)

-- ---- Files

abbrev pub FilesLeft : Data → List MessageFile → List MessageFile → List ℕ → List ℕ → Type 0
FilesLeft document left all now first =
    (rest : List ℕ) → AreFileNotes document left rest
    → (whole : List ℕ) × AreFileNotes document all whole × (now ++ rest ≡ first ++ whole)

pub files_begin : (document : Data) (all : List MessageFile) (first : List ℕ) → FilesLeft document all all first first
files_begin document all first rest h = (rest, h, refl)

pub files_go_on : (document : Data) (all : List MessageFile) (first : List ℕ) (i : ℕ) (d : MessageFile) (now next : List ℕ)
    → i < length all → FilesLeft document (drop i all) all now first → Grows (IsFileNote document (get_or all i d)) now next
    → FilesLeft document (drop (i + 1) all) all next first
files_go_on document all first i d now next lt so_far added rest h =
    let cons : drop i all ≡ get_or all i d ∷ drop (i + 1) all = rw (add-one, drop-cons all i d lt) refl in
    let whole = subst (λ (left : List MessageFile). FilesLeft document left all now first) cons so_far (added.0 ++ rest)
    (added.0, rest, added.1, h, refl) in
    (whole.0, whole.1, ap (λ (t : List ℕ). t ++ rest) added.2 ∙ append_assoc now added.0 rest ∙ whole.2)

pub files_end : (document : Data) (all left : List MessageFile) (first now : List ℕ) → left ≡ []
    → FilesLeft document left all now first → Grows (AreFileNotes document all) first now
files_end document all left first now none so_far =
    let whole = subst (λ (left : List MessageFile). FilesLeft document left all now first) none so_far [] refl in
    (whole.0, whole.1, sym (append-nil now) ∙ whole.2)

-- what is appended to nothing
pub from_nothing : (Is : List ℕ → Type 0) (old new : List ℕ) → old ≡ [] → Grows Is old new → Is new
from_nothing Is old new none grown =
    subst Is (ap (λ (t : List ℕ). t ++ grown.0) (sym none) ∙ sym grown.2) grown.1

-- ---- After an answer

-- all of a text is a part of it
whole_part : (old new : Option (List ℕ)) (text : List ℕ) → Appends old new text → IsPartWritten old new text
whole_part old new text appended = (text, [], sym (append-nil text), appended)

pub noted : (AreNotes : Data → List ℕ → Type 0) (IsResult : Result Verdict FormsError → Type 0) (input : List ℕ) (document : Data)
    (notes : List ℕ) (old new : Option (List ℕ)) (answer result : Result Verdict FormsError) → IsDocumentIn input document
    → AreNotes document notes → IsResult answer → Notes answer notes old new result → AreNoted AreNotes IsResult input old new result
unfolding AreNoted
noted AreNotes IsResult input document notes old new (Ok verdict) result given are whole (inl w) =
    rw w.0 (document, notes, given, are, w.1)
noted AreNotes IsResult input document notes old new (Ok verdict) result given are whole (inr w) =
    rw w.0 (inr (verdict, whole, document, notes, given, are, w.1))
noted AreNotes IsResult input document notes old new (Err error) result given are whole w = rw w.0 (inl w.1)

pub answer_noted : (IsAnswer : Data → Result PrintedText LanguageError → Type 0) (input notes : List ℕ)
    (old new before after : Option (List ℕ))
    (answer result : Result Verdict FormsError) → IsAnsweredText IsAnswer input old new answer → Notes answer notes before after result
    → IsAnsweredText IsAnswer input old new result
unfolding IsAnsweredText
answer_noted IsAnswer input notes old new before after (Ok verdict) result a (inl w) = rw w.0 a
answer_noted IsAnswer input notes old new before after (Ok verdict) result a (inr w) =
    rw w.0 (a.0, a.1, a.2, a.3, whole_part old new a.1.text a.5)
answer_noted IsAnswer input notes old new before after (Err error) result a w = rw w.0 a

pub lines_noted : (part : Part) (locale input notes : List ℕ) (taken left old new before after : Option (List ℕ))
    (answer result : Result Verdict FormsError) → IsAnsweredLines part locale input taken left old new answer
    → Notes answer notes before after result → IsAnsweredLines part locale input taken left old new result
unfolding IsAnsweredLines IsStreamed
lines_noted part locale input notes taken left old new before after (Ok verdict) result a (inl w) = rw w.0 a
lines_noted part locale input notes taken left old new before after (Ok verdict) result a (inr w) =
    let s = a.4 in
    rw w.0 (
      a.0,
      a.1,
      a.2,
      a.3,
      (s.0, input_lines_of s.0, [], s.1, s.2, sym (append-nil (input_lines_of s.0)), s.4, whole_part old new s.1.text s.6),
    )
lines_noted part locale input notes taken left old new before after (Err error) result a w = rw w.0 a

pub check_noted : (text_of : MessageFound → List ℕ) (files : List MessageFile) (input notes : List ℕ) (old new before after : Option (List ℕ))
    (answer result : Result Verdict FormsError) → IsCheckedAs text_of files input old new answer → Notes answer notes before after result
    → IsCheckedAs text_of files input old new result
unfolding IsCheckedAs
check_noted text_of files input notes old new before after (Ok verdict) result a (inl w) = rw w.0 a
check_noted text_of files input notes old new before after (Ok verdict) result a (inr w) =
    let r = a.1 in
    rw w.0 (r.0, r.1, r.2, r.3, (r.4.0, r.4.1, whole_part old new (text_of r.4.0) r.4.3))
check_noted text_of files input notes old new before after (Err error) result a w = rw w.0 a

-- ---- The answers to a document, with their notes

pub printed_noted : (IsAnswer : Data → Result PrintedText LanguageError → Type 0) (AreNotes : Data → List ℕ → Type 0) (input : List ℕ)
    (document : Data) (old new before after : Option (List ℕ)) (result : Result Verdict FormsError) → IsDocumentIn input document
    → NotesAfter (Writes (IsAnswer document) old new) (AreNotes document) before after result
    → IsNoted AreNotes (IsAnsweredText IsAnswer input old new) input before after result
unfolding AreNoted
printed_noted IsAnswer AreNotes input document old new before after result given (inl n) =
    let answer = document_answered IsAnswer input document old new n.2.0 n.0 given n.2.1 n.2.2 in (
      answer_noted IsAnswer input n.1 old new before after n.0 result answer n.4,
      noted AreNotes (IsAnsweredText IsAnswer input old new) input document n.1 before after n.0 result given n.3 answer n.4,
    )
printed_noted IsAnswer AreNotes input document old new before after result given (inr n) = (
  rw n.1 (document_answered IsAnswer input document old new n.0.0 (Err Memory) given n.0.1 n.0.2),
  rw n.1 (inl n.2),
)

pub lines_noted_by : (part : Part) (locale : List ℕ) (AreNotes : Data → List ℕ → Type 0) (input : List ℕ) (document : Data)
    (taken left old new before after : Option (List ℕ)) (result : Result Verdict FormsError) → IsDocumentIn input document
    → IsKnownForPart document part locale
    → NotesAfter (AnswersLines (IsFoundFor document part locale) taken left old new) (AreNotes document) before after result
    → IsNoted AreNotes (IsAnsweredLines part locale input taken left old new) input before after result
unfolding AreNoted
lines_noted_by part locale AreNotes input document taken left old new before after result given known (inl n) =
    let answer = lines_answered part locale input document taken left old new n.0 given known n.2 in (
      lines_noted part locale input n.1 taken left old new before after n.0 result answer n.4,
      noted AreNotes (IsAnsweredLines part locale input taken left old new) input document n.1 before after n.0 result given n.3 answer
          n.4,
    )
lines_noted_by part locale AreNotes input document taken left old new before after result given known (inr n) = (
  rw n.1 (lines_answered part locale input document taken left old new (Err Memory) given known n.0),
  rw n.1 (inl n.2),
)

pub report_noted : (text_of : MessageFound → List ℕ) (files : List MessageFile) (AreNotes : Data → List ℕ → Type 0) (input : List ℕ)
    (document : Data)
    (old new before after : Option (List ℕ)) (result : Result Verdict FormsError) → IsDocumentIn input document
    → NotesAfter (Checks text_of document files old new) (AreNotes document) before after result
    → IsNoted AreNotes (IsCheckedAs text_of files input old new) input before after result
unfolding AreNoted
report_noted text_of files AreNotes input document old new before after result given (inl n) =
    let answer = report_checked text_of files input document old new n.0 given n.2 in (
      check_noted text_of files input n.1 old new before after n.0 result answer n.4,
      noted AreNotes (IsCheckedAs text_of files input old new) input document n.1 before after n.0 result given n.3 answer n.4,
    )
report_noted text_of files AreNotes input document old new before after result given (inr n) = (
  rw n.1 (report_checked text_of files input document old new (Err Memory) given n.0),
  rw n.1 (inl n.2),
)

-- without a document there are none
pub none_noted : (AreNotes : Data → List ℕ → Type 0) (IsResult : Result Verdict FormsError → Type 0) (input : List ℕ)
    (old : Option (List ℕ)) (error : FormsError) → IsResult (Err error) → IsNoted AreNotes IsResult input old old (Err error)
unfolding AreNoted
none_noted AreNotes IsResult input old error is = (is, inl (Keeps-refl old))
