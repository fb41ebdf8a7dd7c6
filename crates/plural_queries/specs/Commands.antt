-- The commands of the program, and the words that they are given by.
use Rattle.std.specs.Prelude.{ℕ, List, [], ◌∷◌, codes, Option, Some, None, option_map, bytes_eq, if◌then◌else◌}
use Rattle.icu_plurals.specs.declared.PluralRuleType.{PluralRuleType}
use Rattle.icu_plurals.specs.declared.PluralRuleType.TheVariants.{Cardinal, Ordinal}

-- test CONDITION INTEGER, category LOCALE TYPE NUMBER, range LOCALE TYPE START END, print LOCALE
-- TYPE, select LOCALE TYPE NUMBER, message LOCALE TYPE NUMBER
pub data Command : Type 0 where
  test : List ℕ → List ℕ → Command
  category : List ℕ → PluralRuleType → List ℕ → Command
  range : List ℕ → PluralRuleType → List ℕ → List ℕ → Command
  print : List ℕ → PluralRuleType → Command
  select : List ℕ → PluralRuleType → List ℕ → Command
  message : List ℕ → PluralRuleType → List ℕ → Command

-- the type of a word
abbrev pub type_of : List ℕ → Option PluralRuleType
type_of word = if bytes_eq word (codes "cardinal") then Some Cardinal else (if bytes_eq word (codes "ordinal") then Some Ordinal else None)

-- a command and two words after it
abbrev pub of_two : List ℕ → List ℕ → List ℕ → Option Command
of_two command first second =
    if bytes_eq command (codes "test") then Some (test first second)
    else (if bytes_eq command (codes "print") then option_map (print first) (type_of second) else None)

-- a command and three words after it
abbrev pub of_three : List ℕ → List ℕ → List ℕ → List ℕ → Option Command
of_three command locale type number =
    if bytes_eq command (codes "category") then option_map (λ t. category locale t number) (type_of type)
    else (if bytes_eq command (codes "select") then option_map (λ t. select locale t number) (type_of type)
    else (if bytes_eq command (codes "message") then option_map (λ t. message locale t number) (type_of type) else None))

-- a command and four words after it
abbrev pub of_four : List ℕ → List ℕ → List ℕ → List ℕ → List ℕ → Option Command
of_four command locale type start end =
    if bytes_eq command (codes "range") then option_map (λ t. range locale t start end) (type_of type) else None

-- the command of the words, if they are one
abbrev pub command_of : List (List ℕ) → Option Command
command_of (command ∷ first ∷ second ∷ []) = of_two command first second
command_of (command ∷ first ∷ second ∷ third ∷ []) = of_three command first second third
command_of (command ∷ first ∷ second ∷ third ∷ fourth ∷ []) = of_four command first second third fourth
command_of words = None
