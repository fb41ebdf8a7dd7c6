-- The words of a name, one after the other.
use Rattle.std.proofs.Common.{◌≡◌, ◌∙◌, ◌||◌, ◌<◌, ℕ, length, arith, List, [], ◌∷◌, Bool, true, false, refl, sym, ap, if◌then◌else◌}
use Rattle.std.specs.List.{list_any}
use Rattle.format_arguments.specs.declared.bytes.Class.TheVariants.{Letter}
use Rattle.format_arguments.specs.DirectiveBytes.{is_in_directive_class, run_front, behind_directive_run, behind_first_byte}
use Rattle.format_arguments.specs.CountedArguments.{is_number_word, is_number_name, first_begun_with, words_of}

-- the words behind the first one
abbrev pub later_words : List ℕ → List (List ℕ)
later_words [] = []
later_words (b ∷ s) = words_of s

first_word : (s : List ℕ) → words_of s ≡ run_front Letter s ∷ later_words (behind_directive_run Letter s)
first_word [] = refl
first_word (b ∷ s) =
    elim (is_in_directive_class Letter b) as (λ (t : Bool). (if t then first_begun_with b (words_of s) else [] ∷ words_of s)
    ≡ (if t then b ∷ run_front Letter s else []) ∷ later_words (if t then behind_directive_run Letter s else b ∷ s)) [
      | true ↦ ap (first_begun_with b) (first_word s)
      | false ↦ refl
    ]

-- whether the first word is one, or a later one
first_or_later : (s word behind : List ℕ) → word ≡ run_front Letter s → behind ≡ behind_directive_run Letter s
    → is_number_name s ≡ (is_number_word word || list_any is_number_word (later_words behind))
unfolding is_number_name
first_or_later s word behind e k =
    ap (list_any is_number_word) (first_word s)
    ∙ (ap (λ (t : List ℕ). is_number_word t || list_any is_number_word (later_words (behind_directive_run Letter s))) (sym e)
    ∙ ap (λ (t : List ℕ). is_number_word word || list_any is_number_word (later_words t)) (sym k))

pub number_here : (s word : List ℕ) → word ≡ run_front Letter s → is_number_word word ≡ true → is_number_name s ≡ true
number_here s word e h =
    first_or_later s word (behind_directive_run Letter s) e refl
    ∙ ap (λ (t : Bool). t || list_any is_number_word (later_words (behind_directive_run Letter s))) h

pub no_word_left : (s word behind : List ℕ) → word ≡ run_front Letter s → behind ≡ behind_directive_run Letter s → is_number_word word ≡ false
    → length behind < 1
    → is_number_name s ≡ false
no_word_left s word [] e k h none =
    first_or_later s word [] e k ∙ ap (λ (t : Bool). t || list_any is_number_word (later_words [])) h
no_word_left s word (b ∷ after) e k h none = absurd (omega (arith, none))

pub word_passed : (s word behind : List ℕ) → word ≡ run_front Letter s → behind ≡ behind_directive_run Letter s → is_number_word word ≡ false
    → is_number_name (behind_first_byte behind) ≡ is_number_name s
unfolding is_number_name is_number_word
word_passed s word [] e k h = sym (no_word_left s word [] e k h (omega arith))
word_passed s word (b ∷ after) e k h =
    sym (first_or_later s word (b ∷ after) e k ∙ ap (λ (t : Bool). t || list_any is_number_word (words_of after)) h)
