-- Not a definition of the subject: the state after some bytes of an input, and one step of it.
use Rattle.std.specs.Prelude.{◌≡◌, ℕ, ◌+◌, ◌<◌, ◌≤◌, List, [], ◌∷◌, ◌++◌, length, take, ◌≢◌}
use Rattle.icu_plurals.specs.FiveRules.{FiveRules, first_category}
use Rattle.number_lines.specs.InputLines.{HasNoEnd, input_lines_of}
use Rattle.icu_plurals.specs.declared.PluralCategory.{PluralCategory}
use Rattle.number_lines.specs.NumberAnswers.{AreLineAnswers, IsAnswerAt, IsChosenFor, category_answer, most_number_bytes, next_place}
use Rattle.number_lines.specs.PrintedTexts.{PrintedText, after_text, both_printed, without_text}
use Rattle.number_lines.specs.declared.printed.Place.TheVariants.{Line}
use Rattle.number_lines.specs.declared.stream.Lines.{Lines}
use Rattle.plural_operands.specs.Operands.{Operands}
use Rattle.plural_operands.specs.Inner.ShortTexts.{HasFractionFront}
use Rattle.icu_plurals.specs.PackedTruth.{packed_truth}

-- ---- The state

-- the place after some lines
abbrev pub place_after : ℕ → List (List ℕ) → ℕ
place_after place [] = place
place_after place (line ∷ lines) = place_after (next_place place) lines

-- After these bytes some lines have ended, and are answered by a text that was written and what is
-- printed since; the last one hasn't, and of it not more than one byte above the limit is kept.
pub record IsAfterBytes (rules : FiveRules) (bytes text : List ℕ) (lines : Lines) : Type 0 where
  pub done : List (List ℕ)
  pub last : List ℕ
  pub cut : (rest : List ℕ) → input_lines_of (bytes ++ rest) ≡ done ++ input_lines_of (last ++ rest)
  pub no_end : HasNoEnd last
  pub kept : lines.line.items ≡ take (most_number_bytes + 1) last
  pub place : lines.place ≡ place_after 1 done
  pub answered : AreLineAnswers rules done (after_text text lines.printed)

-- ---- Steps

-- what is printed has grown by something of this kind
abbrev pub AddsPrinted : (PrintedText → Type 0) → PrintedText → PrintedText → Type 0
AddsPrinted Is old new = (more : PrintedText) × Is more × (new ≡ both_printed old more)

-- more bytes are taken
abbrev pub TakesBytes : FiveRules → List ℕ → Lines → Lines → Type 0
TakesBytes rules more old new = (bytes text : List ℕ) → IsAfterBytes rules bytes text old → IsAfterBytes rules (bytes ++ more) text new

-- bytes at the front are taken, and these are left
pub record TakesFrontBytes (rules : FiveRules) (bytes rest : List ℕ) (old new : Lines) : Type 0 where
  pub front : List ℕ
  pub spelled : bytes ≡ front ++ rest
  pub some : 0 < length front
  pub takes : TakesBytes rules front old new

-- the line is answered as a word, and a new one begins
pub record EndsLine (rules : FiveRules) (word : List ℕ) (old new : Lines) : Type 0 where
  pub answer : PrintedText
  pub answers : IsAnswerAt rules (Line old.place) word answer
  pub line : new.line.items ≡ []
  pub place : new.place ≡ next_place old.place
  pub printed : new.printed ≡ both_printed old.printed answer

-- a line is answered by its category, and a new one begins
pub record EndsByCategory (category : PluralCategory) (old new : Lines) : Type 0 where
  pub line : new.line.items ≡ old.line.items
  pub place : new.place ≡ next_place old.place
  pub printed : new.printed ≡ both_printed old.printed (category_answer category)

-- a line of a number with this category is at the front
pub record BeginsWithLine (rules : FiveRules) (bytes : List ℕ) (category : PluralCategory) (after : List ℕ) : Type 0 where
  pub line : List ℕ
  pub none : HasNoEnd line
  pub short : length line ≤ most_number_bytes
  pub chosen : IsChosenFor rules line category
  pub spelled : bytes ≡ line ++ 10 ∷ after

-- bytes of the line are kept, up to one byte above the limit
pub record KeepsBytes (more : List ℕ) (old new : Lines) : Type 0 where
  pub line : length old.line.items ≤ most_number_bytes + 1 → new.line.items ≡ take (most_number_bytes + 1) (old.line.items ++ more)
  pub place : new.place ≡ old.place
  pub printed : new.printed ≡ old.printed

-- what is printed was written
abbrev pub Forgets : Lines → Lines → Type 0
Forgets old new = new ≡ record old { printed = without_text old.printed }

-- ---- how a line of digits is read as it is cut off

-- the digits of a fraction and a newline are at the front, and the operands are those of an integer
-- part with this fraction
pub record BeginsWithFraction (i : ℕ) (bytes : List ℕ) (o : Operands) (after : List ℕ) : Type 0 where
  pub digits : List ℕ
  pub fraction : HasFractionFront digits o []
  pub none : HasNoEnd digits
  pub some : o.v ≢ 0
  pub integer : o.i ≡ i
  pub exponent : o.c ≡ 0
  pub spelled : bytes ≡ digits ++ 10 ∷ after

-- ... and the category is the one that the rules choose for the operands
abbrev pub HasFractionLine : FiveRules → ℕ → List ℕ → PluralCategory → List ℕ → Type 0
HasFractionLine rules i bytes category after =
    (o : Operands) × BeginsWithFraction i bytes o after × (category ≡ first_category (packed_truth o) rules)
