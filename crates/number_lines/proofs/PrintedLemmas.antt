-- What is printed, one after the other.
use Rattle.std.proofs.Common.{◌≡◌, ℕ, List, [], ◌∷◌, ◌++◌, Bool, true, false, Result, Ok, Err, Bor, length, ◌<◌, arith, refl, sym}
use Rattle.std.proofs.Common.{◌∙◌, ap, subst, append_assoc}
use Rattle.std.specs.Prelude.{◌||◌, OnOk, ⊤}
use Rattle.std.specs.declared.alloc.AllocError.{AllocError}
use Rattle.icu_plurals.specs.declared.PluralCategory.{PluralCategory}
use Rattle.std.proofs.lemmas.List.{append-nil}
use Rattle.icu_plurals.specs.FiveRules.{FiveRules}
use Rattle.number_lines.specs.Inner.LineSteps.{place_after, AddsPrinted}
use Rattle.number_lines.specs.NumberAnswers.{command_words_view, AreAnswersFrom, IsAnswerAt, IsCategoryOf, answer_text, next_place}
use Rattle.number_lines.specs.declared.printed.NumberFault.{NumberFault}
use Rattle.number_lines.specs.PrintedTexts.{PrintedText, after_text, both_printed, nothing_printed}
use Rattle.number_lines.specs.declared.printed.Place.{Place}

or_false : (b : Bool) → (b || false) ≡ b
or_false true = refl
or_false false = refl

or_assoc : (a b c : Bool) → ((a || b) || c) ≡ (a || (b || c))
or_assoc true b c = refl
or_assoc false b c = refl

-- nothing_printed after it
pub joined_nothing : (p : PrintedText) → both_printed p nothing_printed ≡ p
joined_nothing p = rw (append-nil p.text, or_false p.has_fault) refl

-- nothing_printed before it
pub nothing_joined : (p : PrintedText) → both_printed nothing_printed p ≡ p
nothing_joined p = refl

pub joined_assoc : (a b c : PrintedText) → both_printed a (both_printed b c) ≡ both_printed (both_printed a b) c
joined_assoc a b c = rw (append_assoc a.text b.text c.text, or_assoc a.has_fault b.has_fault c.has_fault) refl

-- a text before the first of two is a text before both
pub after_joined : (text : List ℕ) (a b : PrintedText) → both_printed (after_text text a) b ≡ after_text text (both_printed a b)
after_joined text a b = rw (append_assoc text a.text b.text) refl

-- ---- Answers

-- If all answers are what is printed and the rest, so they are after one more answer.
pub answers_grown : (at : ℕ → Place) (rules : FiveRules) (place : ℕ) (word : List ℕ) (words all : List (List ℕ)) (old new m : PrintedText)
    → ((more : PrintedText) → AreAnswersFrom at rules place (word ∷ words) more → AreAnswersFrom at rules 1 all (both_printed old more))
    → IsAnswerAt rules (at place) word m → new ≡ both_printed old m
    → (more : PrintedText) → AreAnswersFrom at rules (next_place place) words more → AreAnswersFrom at rules 1 all (both_printed new more)
answers_grown at rules place word words all old new m so_far is grown more h =
    rw grown (subst (λ (p : PrintedText). AreAnswersFrom at rules 1 all p) (joined_assoc old m more)
    (so_far (both_printed m more) (m, more, is, h, refl)))

-- one more answer at the end
pub answers_append : (at : ℕ → Place) (rules : FiveRules) (place : ℕ) (done : List (List ℕ)) (line : List ℕ) (p q : PrintedText)
    → AreAnswersFrom at rules place done p → IsAnswerAt rules (at (place_after place done)) line q
    → AreAnswersFrom at rules place (done ++ line ∷ []) (both_printed p q)
answers_append at rules place [] line p q is more = (q, nothing_printed, more, refl, rw is (sym (joined_nothing q)))
answers_append at rules place (word ∷ done) line p q is more = (
  is.0,
  both_printed is.1 q,
  is.2,
  answers_append at rules (next_place place) done line is.1 q is.3 more,
  ap (λ (r : PrintedText). both_printed r q) is.4 ∙ sym (joined_assoc is.0 is.1 q),
)

-- the place after one more line
pub place_after_one : (place : ℕ) (done : List (List ℕ)) (line : List ℕ)
    → place_after place (done ++ line ∷ []) ≡ next_place (place_after place done)
place_after_one place [] line = refl
place_after_one place (word ∷ done) line = place_after_one (next_place place) done line

-- the answers to the first number are what is printed with it
pub start_answers : (old more : PrintedText) → old ≡ nothing_printed → more ≡ both_printed old more
start_answers old more none = rw none refl

-- a list shorter than 1 has no word
pub empty_words : (xs : List (Bor (List ℕ))) → length xs < 1 → command_words_view xs ≡ []
empty_words [] short = refl
empty_words (x ∷ xs) short = absurd (omega arith)

-- ---- One answer

-- the line of a category, or of a fault
pub answered : (rules : FiveRules) (place : Place) (word : List ℕ) (old new : PrintedText) (answer : Result PluralCategory NumberFault)
    (r : Result ⊤ AllocError) → IsCategoryOf rules word answer → OnOk r (new ≡ both_printed old (answer_text place answer))
    → OnOk r (AddsPrinted (IsAnswerAt rules place word) old new)
answered rules place word old new answer (Ok x) is grown = (answer_text place answer, (answer, is, refl), grown)
answered rules place word old new answer (Err e) is grown = tt
