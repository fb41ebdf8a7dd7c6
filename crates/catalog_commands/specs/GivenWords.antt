-- The arguments that words give a pattern: a name, and a value that is a number where the pattern
-- takes the category of this argument, and a text elsewhere.
--     AreGivenBy words given      the names and values that words NAME=VALUE give
--     AreArgumentsOf parts words arguments
use Rattle.std.specs.Prelude.{◌≡◌, ◌≢◌, ◌⊎◌, ◌==◌, ℕ, List, [], ◌∷◌, map, length, nat_lt, Option, Some, None, is_some, IsTrue, slice_get, if◌then◌else◌, ◌&&◌}
use Rattle.std.specs.List.{after_first, before_first, position_or_len}
use Rattle.message_format.specs.FormatArguments.{Argument, Number, Text}
use Rattle.message_pattern.specs.PatternParts.{Part, PatternPiece, Begin}
use Rattle.message_pattern.specs.declared.part.ArgumentKind.TheVariants.{Select}

-- a name, and a value as it is written
pub record GivenWord : Type 0 where
  pub name : List ℕ
  pub value : List ℕ

-- where the first `=` of a word is, or its length
abbrev pub name_length : List ℕ → ℕ
name_length word = position_or_len (λ b. b == 61) word

-- what stands before and after the first `=`, if there is one, and a name before it
abbrev pub given_of : List ℕ → Option GivenWord
given_of word =
    if nat_lt 0 (name_length word) && nat_lt (name_length word) (length word)
    then Some (record { name = before_first (λ b. b == 61) word; value = after_first (λ b. b == 61) word }) else None

-- each of the words gives one
abbrev pub AreGivenBy : List (List ℕ) → List GivenWord → Type 0
AreGivenBy words given = map given_of words ≡ map Some given

-- the first word that gives nothing
abbrev pub first_ungiven : List (List ℕ) → Option (List ℕ)
first_ungiven [] = None
first_ungiven (word ∷ words) = if is_some (given_of word) then first_ungiven words else Some word

-- the first of the words gives one
abbrev pub BeginWithGiven : List (List ℕ) → Type 0
BeginWithGiven [] = ⊥
BeginWithGiven (word ∷ words) = IsTrue (is_some (given_of word))

-- the beginning of a plural or an ordinal of the argument with a name
abbrev pub BeginsNumberArgument : PatternPiece → List ℕ → Type 0
BeginsNumberArgument (Begin kind other offset) name = (kind ≢ Select) × (other ≡ name)
BeginsNumberArgument _ name = ⊥

-- the pattern has a plural or an ordinal of the argument
abbrev pub TakesNumber : List Part → List ℕ → Type 0
TakesNumber parts name = (index : ℕ) × (part : Part) × (slice_get parts index ≡ Some part) × BeginsNumberArgument part.piece name

-- the argument that a word gives
abbrev pub IsArgumentOf : List Part → GivenWord → Argument → Type 0
IsArgumentOf parts word argument =
    (argument.name ≡ word.name)
    × ((TakesNumber parts word.name × (argument.value ≡ Number word.value))
    ⊎ (¬ (TakesNumber parts word.name) × (argument.value ≡ Text word.value)))

-- one by one
abbrev pub AreArgumentsOf : List Part → List GivenWord → List Argument → Type 0
AreArgumentsOf parts [] [] = Unit {0}
AreArgumentsOf parts (word ∷ words) (argument ∷ arguments) = IsArgumentOf parts word argument × AreArgumentsOf parts words arguments
AreArgumentsOf _ _ _ = ⊥
