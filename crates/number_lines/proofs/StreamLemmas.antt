-- What is taken of an input and written of its answers.
use Rattle.std.proofs.Common.{◌≡◌, ℕ, List, [], ◌++◌, Bool, Option, Result, Ok, Err, take, refl, sym, ◌∙◌, ap, subst}
use Rattle.std.proofs.Common.{append_assoc, inl, inr}
use Rattle.std.specs.Prelude.{◌⊎◌, OnOk, IfErr, ⊤}
use Rattle.std.specs.Io.KnownBytes.{Appends, Consumes, IsAtEnd}
use Rattle.std.proofs.KnownBytes.{Appends-nil, Appends-trans, Consumes-trans}
use Rattle.std.proofs.lemmas.List.{append-nil}
use Rattle.std.specs.declared.alloc.AllocError.{AllocError}
use Rattle.icu_plurals.specs.FiveRules.{FiveRules}
use Rattle.plural_documents.specs.Inputs.{IsPartWritten}
use Rattle.number_lines.specs.AnsweredInputs.{IsAnsweredInPart, AnswersInput, WritesPrinted}
use Rattle.number_lines.specs.InputLines.{input_lines_of}
use Rattle.number_lines.specs.Inner.LineSteps.{EndsLine, Forgets, TakesBytes}
use Rattle.number_lines.specs.Inner.StreamSteps.{FinishesLines, IsBegunAfter, IsWrittenAfter, TakesAndWrites}
use Rattle.number_lines.specs.PrintedTexts.{after_text}
use Rattle.number_lines.specs.declared.error.LinesError.{LinesError}
use Rattle.number_lines.specs.declared.error.LinesError.TheVariants.{Read, Write, Memory}
use Rattle.number_lines.specs.declared.stream.Lines.{Lines}
use Rattle.number_lines.proofs.AfterLemmas.{begun_part, last_answered, none_left, written_on}

-- what holds at Ok has a consequence there
pub on_ok : {P Q : Type 0} (r : Result ⊤ AllocError) → (P → Q) → OnOk r P → OnOk r Q
on_ok (Ok x) f h = f h
on_ok (Err e) f h = tt

-- ---- Bytes are taken

pub wrote_on : (rules : FiveRules) (more : List ℕ) (lines mid new : Lines) (before after : Option (List ℕ)) (r : Result ⊤ LinesError)
    → TakesBytes rules more lines mid → OnOk r (Appends before after mid.printed.text) → OnOk r (Forgets mid new)
    → IfErr r (λ e. (e ≡ Write) × IsPartWritten before after mid.printed.text) → TakesAndWrites rules more lines new before after r
wrote_on rules more lines mid new before after (Ok x) takes appended forgets part = λ bytes text h.
    (mid.printed.text, appended, written_on rules (bytes ++ more) text mid new (takes bytes text h.0) forgets)
wrote_on rules more lines mid new before after (Err e) takes appended forgets part = (
  inr part.0,
  λ bytes text h. begun_part rules (bytes ++ more) text mid before after (takes bytes text h.0) part.1,
)

-- ---- The last line

pub finished : (rules : FiveRules) (lines mid : Lines) (before after : Option (List ℕ)) (r : Result Bool LinesError)
    → (lines.line.items ≡ [] → ⊥) → EndsLine rules lines.line.items lines mid → WritesPrinted mid.printed before after r
    → FinishesLines rules lines before after r
finished rules lines mid before after (Ok has_fault) there e written = λ bytes text h. (
  after_text text mid.printed,
  mid.printed.text,
  last_answered rules bytes text lines mid there e h.0,
  refl,
  written.0,
  written.1,
)
finished rules lines mid before after (Err error) there e written = (
  inr written.0,
  λ bytes text h. (
    input_lines_of bytes,
    [],
    after_text text mid.printed,
    mid.printed.text,
    sym (append-nil (input_lines_of bytes)),
    last_answered rules bytes text lines mid there e h.0,
    refl,
    written.1,
  ),
)

pub finished_before : (rules : FiveRules) (lines : Lines) (has_fault : Bool) (old : Option (List ℕ)) → lines.line.items ≡ []
    → has_fault ≡ lines.printed.has_fault → FinishesLines rules lines old old (Ok has_fault)
finished_before rules lines has_fault old none is = λ bytes text h. (
  after_text text lines.printed,
  [],
  none_left rules bytes text lines none h.0,
  ap (λ (t : List ℕ). text ++ t) h.1,
  is,
  Appends-nil old,
)

-- ---- The whole input

-- a beginning of what comes after a text is a beginning after it
part_after : (old mid new : Option (List ℕ)) (text more : List ℕ) → Appends old mid text → IsPartWritten mid new more
    → IsPartWritten old new (text ++ more)
part_after old mid new text more before part = (
  text ++ part.0,
  part.1,
  ap (λ (l : List ℕ). text ++ l) part.2 ∙ sym (append_assoc text part.0 part.1),
  Appends-trans old mid new text part.0 before part.3,
)

pub begun_all : (rules : FiveRules) (bytes text : List ℕ) (before left old mid new : Option (List ℕ)) → Consumes before left bytes
    → Appends old mid text → IsBegunAfter rules bytes text mid new → IsAnsweredInPart rules before left old new
begun_all rules bytes text before left old mid new consumed appended b = (
  bytes,
  b.0,
  b.1,
  b.2,
  consumed,
  b.4,
  b.5,
  subst (IsPartWritten old new) (sym b.6) (part_after old mid new text b.3 appended b.7),
)

-- the reader failed
pub cut_off : (rules : FiveRules) (bytes text : List ℕ) (lines : Lines) (before left old new : Option (List ℕ)) → Consumes before left bytes
    → Appends old new text → IsWrittenAfter rules bytes text lines
    → AnswersInput rules before left old new (Err Read)
unfolding AnswersInput
cut_off rules bytes text lines before left old new consumed appended after =
    let a = after.0 in (
      bytes,
      a.done,
      after_text text lines.printed,
      consumed,
      (a.last, a.no_end, a.cut),
      a.answered,
      subst (Appends old new) (sym (ap (λ (t : List ℕ). text ++ t) after.1 ∙ append-nil text)) appended,
    )

-- memory ran out, or the writer failed
pub failed : (rules : FiveRules) (before left old new : Option (List ℕ)) (error : LinesError) → (error ≡ Memory) ⊎ (error ≡ Write)
    → IsAnsweredInPart rules before left old new → AnswersInput rules before left old new (Err error)
unfolding AnswersInput
failed rules before left old new error (inl is) begun = rw is begun
failed rules before left old new error (inr is) begun = rw is begun

-- the last line completes the answers
pub streamed : (rules : FiveRules) (bytes text : List ℕ) (lines : Lines) (before left old mid new : Option (List ℕ))
    (r : Result Bool LinesError)
    → Consumes before left bytes → IsAtEnd left → Appends old mid text → IsWrittenAfter rules bytes text lines
    → FinishesLines rules lines mid new r → AnswersInput rules before left old new r
unfolding AnswersInput
streamed rules bytes text lines before left old mid new (Ok has_fault) consumed end appended after finish =
    let f = finish bytes text after in (
      bytes,
      f.0,
      consumed,
      end,
      f.2,
      f.4,
      subst (Appends old new) (sym f.3) (Appends-trans old mid new text f.1 appended f.5),
    )
streamed rules bytes text lines before left old mid new (Err error) consumed end appended after finish =
    failed rules before left old new error finish.0
    (begun_all rules bytes text before left old mid new consumed appended (finish.1 bytes text after))

-- a read that gave nothing takes nothing
pub at_end : (before mid left : Option (List ℕ)) (bytes buf : List ℕ) (n : ℕ) → n ≡ 0 → Consumes before mid bytes
    → Consumes mid left (take n buf) → Consumes before left bytes
at_end before mid left bytes buf n none first second =
    subst (Consumes before left) (ap (λ (k : ℕ). bytes ++ take k buf) none ∙ append-nil bytes)
    (Consumes-trans before mid left bytes (take n buf) first second)

-- a call that gave no error took the bytes, and wrote
pub took : (rules : FiveRules) (more : List ℕ) (lines new : Lines) (before after : Option (List ℕ)) (r : Result ⊤ LinesError)
    → TakesAndWrites rules more lines new before after r → ((e : LinesError) → r ≡ Err e → ⊥) → (bytes text : List ℕ)
    → IsWrittenAfter rules bytes text lines
    → (added : List ℕ) × Appends before after added × IsWrittenAfter rules (bytes ++ more) (text ++ added) new
took rules more lines new before after (Ok x) takes not bytes text h = takes bytes text h
took rules more lines new before after (Err e) takes not bytes text h = absurd (not e refl)
