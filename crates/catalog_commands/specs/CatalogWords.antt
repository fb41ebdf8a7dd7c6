-- The words of `pack` and `say`, two commands of the program.
--     pack_of words      what the words after `pack` name, if they name it
--     say_of words      the same of `say`
use Rattle.std.specs.Prelude.{ℕ, List, [], ◌∷◌, codes, Bool, Option, Some, None, is_some, bytes_eq, nat_eq, if◌then◌else◌}
use Rattle.std.specs.List.{starts_with}

-- ---- Options

-- the word behind an option at the front, and the words after it
pub record Valued : Type 0 where
  pub value : Option (List ℕ)
  pub rest : List (List ℕ)

abbrev pub value_and_rest : Option (List ℕ) → List (List ℕ) → Valued
value_and_rest value rest = record { value = value; rest = rest }

abbrev pub valued : List ℕ → List (List ℕ) → Valued
valued option (first ∷ word ∷ rest) =
    if bytes_eq first option then value_and_rest (Some word) rest else value_and_rest None (first ∷ word ∷ rest)
valued option words = value_and_rest None words

-- no file has such a name
abbrev pub is_option : List ℕ → Bool
is_option word = starts_with nat_eq word (codes "--")

-- ---- pack [--locale LOCALE] FILE

pub record Packing : Type 0 where
  pub locale : Option (List ℕ)
  pub file : List ℕ

-- one file
abbrev pub of_file : Option (List ℕ) → List (List ℕ) → Option Packing
of_file locale (file ∷ []) = if is_option file then None else Some (record { locale = locale; file = file })
of_file locale words = None

abbrev pub of_valued : Valued → Option Packing
of_valued found = of_file found.value found.rest

abbrev pub pack_of : List (List ℕ) → Option Packing
pack_of words = of_valued (valued (codes "--locale") words)

-- ---- say [--locale LOCALE] [--rules FILE] CATALOG KEY [NAME=VALUE..]

pub record Saying : Type 0 where
  pub locale : Option (List ℕ)
  pub rules : Option (List ℕ)
  pub catalog : List ℕ
  pub key : List ℕ
  pub given : List (List ℕ)

-- a catalogue, a key, and what is given to it
abbrev pub of_message : Option (List ℕ) → Option (List ℕ) → List (List ℕ) → Option Saying
of_message locale rules (catalog ∷ key ∷ given) =
    if is_option catalog then None
    else Some (record { locale = locale; rules = rules; catalog = catalog; key = key; given = given })
of_message locale rules words = None

abbrev pub with_rules : Option (List ℕ) → Valued → Option Saying
with_rules locale found = of_message locale found.value found.rest

abbrev pub saying_with_locale : Option (List ℕ) → Valued → Option Saying
saying_with_locale rules found = of_message found.value rules found.rest

-- `--locale LOCALE`, and then `--rules FILE`, or these in the other order; each may be absent
abbrev pub behind_rules : Valued → Option Saying
behind_rules found = saying_with_locale found.value (valued (codes "--locale") found.rest)

abbrev pub behind_locale : List (List ℕ) → Valued → Option Saying
behind_locale words found =
    if is_some found.value then with_rules found.value (valued (codes "--rules") found.rest)
    else behind_rules (valued (codes "--rules") words)

abbrev pub say_of : List (List ℕ) → Option Saying
say_of words = behind_locale words (valued (codes "--locale") words)
