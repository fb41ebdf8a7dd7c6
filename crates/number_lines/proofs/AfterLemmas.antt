-- The state after some bytes of an input.
use Rattle.std.proofs.Common.{◌≡◌, ℕ, ◌+◌, List, [], ◌∷◌, ◌++◌, take, refl, sym, ◌∙◌, ap, subst, append_assoc, inl, inr, Result, Option}
use Rattle.std.specs.Prelude.{◌≢◌, ◌<◌, ◌≤◌, length}
use Rattle.std.proofs.lemmas.List.{append-nil}
use Rattle.std.proofs.Math.Seq.{take-nil}
use Rattle.std.proofs.KnownBytes.{Appends-nil}
use Rattle.plural_documents.specs.Inputs.{IsPartWritten}
use Rattle.icu_plurals.specs.FiveRules.{FiveRules}
use Rattle.icu_plurals.specs.declared.PluralCategory.{PluralCategory}
use Rattle.number_lines.specs.InputLines.{HasNoEnd, input_lines_of}
use Rattle.number_lines.specs.Inner.LineSteps.{EndsLine, Forgets, IsAfterBytes, KeepsBytes, place_after}
use Rattle.number_lines.specs.Inner.StreamSteps.{IsBegunAfter, IsWrittenAfter}
use Rattle.number_lines.specs.NumberAnswers.{AreLineAnswers, IsAnswerAt, IsCategoryOf, most_number_bytes, next_place}
use Rattle.number_lines.specs.PrintedTexts.{PrintedText, after_text, both_printed, nothing_printed}
use Rattle.number_lines.specs.declared.printed.NumberFault.{NumberFault}
use Rattle.number_lines.specs.declared.printed.Place.{Place}
use Rattle.number_lines.specs.declared.printed.Place.TheVariants.{Line}
use Rattle.number_lines.specs.declared.stream.Lines.{Lines}
use Rattle.number_lines.proofs.LineLemmas.{ended, kept_bound, kept_long, kept_more, kept_nothing, kept_whole, no_end_both, unended}
use Rattle.number_lines.proofs.PrintedLemmas.{after_joined, answers_append, place_after_one}

-- ---- The answer to a line of which not all is kept

kept_category : (rules : FiveRules) (last kept : List ℕ) (answer : Result PluralCategory NumberFault)
    → kept ≡ take (most_number_bytes + 1) last → IsCategoryOf rules kept answer → IsCategoryOf rules last answer
kept_category rules last kept answer is (inl long) =
    inl (kept_long most_number_bytes last (subst (λ (l : List ℕ). most_number_bytes < length l) is long.0), long.1)
kept_category rules last kept answer is (inr short) =
    let whole : take (most_number_bytes + 1) last ≡ last =
    kept_whole most_number_bytes last (subst (λ (l : List ℕ). length l ≤ most_number_bytes) is short.0) in
    subst (λ (l : List ℕ). IsCategoryOf rules l answer) (is ∙ whole) (inr short)

kept_answer : (rules : FiveRules) (place : Place) (last kept : List ℕ) (printed : PrintedText)
    → kept ≡ take (most_number_bytes + 1) last → IsAnswerAt rules place kept printed → IsAnswerAt rules place last printed
kept_answer rules place last kept printed is answered = (answered.0, kept_category rules last kept answered.0 is answered.1, answered.2)

-- ---- More bytes

-- bytes that end no line
pub after_more : (rules : FiveRules) (bytes text more : List ℕ) (old new : Lines) → HasNoEnd more → KeepsBytes more old new
    → IsAfterBytes rules bytes text old → IsAfterBytes rules (bytes ++ more) text new
after_more rules bytes text more old new none keeps a =
    let short : length old.line.items ≤ most_number_bytes + 1 =
    subst (λ (l : List ℕ). length l ≤ most_number_bytes + 1) (sym a.kept) (kept_bound (most_number_bytes + 1) a.last) in
    record {
      done = a.done;
      last = a.last ++ more;
      cut = λ rest. rw (append_assoc bytes more rest, append_assoc a.last more rest) (a.cut (more ++ rest));
      no_end = no_end_both a.last more a.no_end none;
      kept = keeps.line short ∙ ap (λ (l : List ℕ). take (most_number_bytes + 1) (l ++ more)) a.kept
          ∙ kept_more (most_number_bytes + 1) a.last more;
      place = keeps.place ∙ a.place;
      answered = subst (λ (p : PrintedText). AreLineAnswers rules a.done (after_text text p)) (sym keeps.printed) a.answered;
    }

-- one more line is answered
answered_line : (rules : FiveRules) (bytes text line : List ℕ) (old new : Lines) (answer : PrintedText) (a : IsAfterBytes rules bytes text old)
    → IsAnswerAt rules (Line old.place) line answer → new.printed ≡ both_printed old.printed answer
    → AreLineAnswers rules (a.done ++ line ∷ []) (after_text text new.printed)
answered_line rules bytes text line old new answer a answers printed =
    let here : IsAnswerAt rules (Line (place_after 1 a.done)) line answer =
    subst (λ (n : ℕ). IsAnswerAt rules (Line n) line answer) a.place answers in
    subst (λ (p : PrintedText). AreLineAnswers rules (a.done ++ line ∷ []) p)
    (after_joined text old.printed answer ∙ ap (after_text text) (sym printed))
    (answers_append Line rules 1 a.done line (after_text text old.printed) answer a.answered here)

-- the lines that have ended then are answered
answered_end : (rules : FiveRules) (bytes text : List ℕ) (old new : Lines) → EndsLine rules old.line.items old new
    → (a : IsAfterBytes rules bytes text old) → AreLineAnswers rules (a.done ++ a.last ∷ []) (after_text text new.printed)
answered_end rules bytes text old new e a =
    answered_line rules bytes text a.last old new e.answer a
    (kept_answer rules (Line old.place) a.last old.line.items e.answer a.kept e.answers) e.printed

-- a newline
pub after_end : (rules : FiveRules) (bytes text : List ℕ) (old new : Lines) → EndsLine rules old.line.items old new
    → IsAfterBytes rules bytes text old → IsAfterBytes rules (bytes ++ 10 ∷ []) text new
after_end rules bytes text old new e a = record {
  done = a.done ++ a.last ∷ [];
  last = [];
  cut = λ rest. rw (append_assoc bytes (10 ∷ []) rest, append_assoc a.done (a.last ∷ []) (input_lines_of rest))
      (a.cut (10 ∷ rest) ∙ ap (λ (ls : List (List ℕ)). a.done ++ ls) (ended a.last rest a.no_end));
  no_end = tt;
  kept = e.line ∙ sym (take-nil (most_number_bytes + 1));
  place = e.place ∙ ap next_place a.place ∙ sym (place_after_one 1 a.done a.last);
  answered = answered_end rules bytes text old new e a;
}

-- a whole line, of which nothing_printed was kept
pub after_line : (rules : FiveRules) (bytes text line : List ℕ) (old new : Lines) → HasNoEnd line → old.line.items ≡ []
    → EndsLine rules line old new → IsAfterBytes rules bytes text old → IsAfterBytes rules (bytes ++ (line ++ 10 ∷ [])) text new
after_line rules bytes text line old new none nothing_kept e a =
    let empty : a.last ≡ [] = kept_nothing most_number_bytes a.last (sym a.kept ∙ nothing_kept) in
    record {
      done = a.done ++ line ∷ [];
      last = [];
      cut = λ rest. rw (
        append_assoc bytes (line ++ 10 ∷ []) rest,
        append_assoc line (10 ∷ []) rest,
        append_assoc a.done (line ∷ []) (input_lines_of rest),
      )
          (a.cut (line ++ 10 ∷ rest) ∙ ap (λ (l : List ℕ). a.done ++ input_lines_of (l ++ (line ++ 10 ∷ rest))) empty
          ∙ ap (λ (ls : List (List ℕ)). a.done ++ ls) (ended line rest none));
      no_end = tt;
      kept = e.line ∙ sym (take-nil (most_number_bytes + 1));
      place = e.place ∙ ap next_place a.place ∙ sym (place_after_one 1 a.done line);
      answered = answered_line rules bytes text line old new e.answer a e.answers e.printed;
    }

-- the end of a line of which bytes are kept
pub after_kept : (rules : FiveRules) (bytes text line : List ℕ) (old mid new : Lines) → HasNoEnd line → KeepsBytes line old mid
    → EndsLine rules mid.line.items mid new → IsAfterBytes rules bytes text old → IsAfterBytes rules (bytes ++ (line ++ 10 ∷ [])) text new
after_kept rules bytes text line old mid new none keeps e a =
    subst (λ (b : List ℕ). IsAfterBytes rules b text new) (append_assoc bytes line (10 ∷ []))
    (after_end rules (bytes ++ line) text mid new e (after_more rules bytes text line old mid none keeps a))

-- ---- Nothing before the first byte

pub after_nothing : (rules : FiveRules) (lines : Lines) → lines.line.items ≡ [] → lines.place ≡ 1 → lines.printed ≡ nothing_printed
    → IsWrittenAfter rules [] [] lines
after_nothing rules lines line place printed = (
  record {
    done = [];
    last = [];
    cut = λ rest. refl;
    no_end = tt;
    kept = line ∙ sym (take-nil (most_number_bytes + 1));
    place = place;
    answered = rw printed refl;
  },
  rw printed refl,
)

-- ---- What was written

-- nothing_printed more is written when bytes are taken
pub begun_before : (rules : FiveRules) (bytes more text : List ℕ) (lines : Lines) (old : Option (List ℕ))
    → IsWrittenAfter rules bytes text lines → IsBegunAfter rules (bytes ++ more) text old old
begun_before rules bytes more text lines old h =
    let a = h.0 in (
      a.done,
      input_lines_of (a.last ++ more),
      after_text text lines.printed,
      [],
      a.cut more,
      a.answered,
      ap (λ (t : List ℕ). text ++ t) h.1,
      ([], [], refl, Appends-nil old),
    )

-- the same, with no byte more
pub begun_here : (rules : FiveRules) (bytes text : List ℕ) (lines : Lines) (old : Option (List ℕ))
    → IsWrittenAfter rules bytes text lines → IsBegunAfter rules bytes text old old
begun_here rules bytes text lines old h =
    subst (λ (b : List ℕ). IsBegunAfter rules b text old old) (append-nil bytes) (begun_before rules bytes [] text lines old h)

-- the lines of bytes after which no more come
cut_here : (bytes last : List ℕ) (done : List (List ℕ)) → ((rest : List ℕ) → input_lines_of (bytes ++ rest) ≡ done ++ input_lines_of (last ++ rest))
    → input_lines_of bytes ≡ done ++ input_lines_of last
cut_here bytes last done cut =
    ap input_lines_of (sym (append-nil bytes)) ∙ cut [] ∙ ap (λ (l : List ℕ). done ++ input_lines_of l) (append-nil last)

-- what is printed is written in part
pub begun_part : (rules : FiveRules) (bytes text : List ℕ) (lines : Lines) (old new : Option (List ℕ))
    → IsAfterBytes rules bytes text lines → IsPartWritten old new lines.printed.text → IsBegunAfter rules bytes text old new
begun_part rules bytes text lines old new a part = (
  a.done,
  input_lines_of a.last,
  after_text text lines.printed,
  lines.printed.text,
  cut_here bytes a.last a.done a.cut,
  a.answered,
  refl,
  part,
)

-- what is printed is written
pub written_on : (rules : FiveRules) (bytes text : List ℕ) (mid new : Lines) → IsAfterBytes rules bytes text mid → Forgets mid new
    → IsWrittenAfter rules bytes (text ++ mid.printed.text) new
written_on rules bytes text mid new a forgets = rw forgets (
  record {
    done = a.done;
    last = a.last;
    cut = a.cut;
    no_end = a.no_end;
    kept = a.kept;
    place = a.place;
    answered = subst (λ (t : List ℕ). AreLineAnswers rules a.done (record { text = t; has_fault = mid.printed.has_fault }))
        (sym (append-nil (text ++ mid.printed.text))) a.answered;
  },
  refl,
)

-- ---- The last line

-- a line that has begun is the last one
last_lines : (last : List ℕ) → HasNoEnd last → (last ≡ [] → ⊥) → input_lines_of last ≡ last ∷ []
last_lines [] none there = absurd (there refl)
last_lines (byte ∷ bytes) none there = unended byte bytes none

-- its answer completes the answers to all lines
pub last_answered : (rules : FiveRules) (bytes text : List ℕ) (old mid : Lines) → (old.line.items ≡ [] → ⊥)
    → EndsLine rules old.line.items old mid
    → IsAfterBytes rules bytes text old → AreLineAnswers rules (input_lines_of bytes) (after_text text mid.printed)
last_answered rules bytes text old mid there e a =
    let begun : a.last ≡ [] → ⊥ = λ none. there (a.kept ∙ ap (take (most_number_bytes + 1)) none ∙ take-nil (most_number_bytes + 1)) in
    subst (λ (ls : List (List ℕ)). AreLineAnswers rules ls (after_text text mid.printed))
    (sym (cut_here bytes a.last a.done a.cut ∙ ap (λ (ls : List (List ℕ)). a.done ++ ls) (last_lines a.last a.no_end begun)))
    (answered_end rules bytes text old mid e a)

-- if no line has begun, all lines are answered
pub none_left : (rules : FiveRules) (bytes text : List ℕ) (lines : Lines) → lines.line.items ≡ []
    → IsAfterBytes rules bytes text lines → AreLineAnswers rules (input_lines_of bytes) (after_text text lines.printed)
none_left rules bytes text lines none a =
    let empty : a.last ≡ [] = kept_nothing most_number_bytes a.last (sym a.kept ∙ none) in
    subst (λ (ls : List (List ℕ)). AreLineAnswers rules ls (after_text text lines.printed))
    (sym (cut_here bytes a.last a.done a.cut ∙ ap (λ (l : List ℕ). a.done ++ input_lines_of l) empty ∙ append-nil a.done)) a.answered
