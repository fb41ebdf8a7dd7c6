-- The arguments of a message, by name: each is a number, as it is written, or a text.
use Rattle.std.specs.Prelude.{ℕ, List, [], ◌∷◌, map, bytes_eq, Option, Some, None, if◌then◌else◌}
use Rattle.message_format.specs.declared.arguments.Argument as arguments
use Rattle.message_format.specs.declared.arguments.Value as values
use Rattle.message_format.specs.declared.arguments.Value.TheVariants as value

-- a number, as it is written, or a text
pub data Value : Type 0 where
  Number : List ℕ → Value
  Text : List ℕ → Value

-- a value under a name
pub record Argument : Type 0 where
  pub name : List ℕ
  pub value : Value

-- the value of the first argument that has the name
abbrev pub value_named : List ℕ → List Argument → Option Value
value_named name [] = None
value_named name (a ∷ rest) = if bytes_eq a.name name then Some a.value else value_named name rest

-- ---- the same of the types of the code

abbrev pub value_view : values.Value → Value
value_view (value.Number number) = Number number.now
value_view (value.Text text) = Text text.now

abbrev pub named_value_view : arguments.Argument → Argument
named_value_view a = record { name = a.name.now; value = value_view a.value }

abbrev pub named_values_view : List arguments.Argument → List Argument
named_values_view list = map named_value_view list
