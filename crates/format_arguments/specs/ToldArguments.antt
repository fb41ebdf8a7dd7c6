-- What the reader of a text returns: the arguments that the text has, or out of memory.
use Rattle.std.specs.Prelude.{◌≡◌, ℕ, List, Option, Result, Ok, Err}
use Rattle.std.specs.declared.alloc.AllocError.{AllocError}
use Rattle.format_arguments.specs.declared.argument.Arguments.{Arguments}
use Rattle.format_arguments.specs.declared.format.Format.{Format}
use Rattle.format_arguments.specs.CutTexts.{FormatArgument, HasArguments, arguments_view}

-- these are told
abbrev pub AreToldArguments : Format → List ℕ → Result Arguments AllocError → Type 0
AreToldArguments f text (Ok told) = HasArguments f text (arguments_view told.items.items) told.fault
AreToldArguments f text (Err error) = Unit {0}

-- these are told, unless memory ran out
abbrev pub Tells : Result Arguments AllocError → List FormatArgument → Option ℕ → Type 0
Tells (Ok told) arguments fault = (arguments_view told.items.items ≡ arguments) × (told.fault ≡ fault)
Tells (Err error) arguments fault = Unit {0}

-- arguments and a fault are told if and only if the text has them, out of memory aside
pub record TellsExactly (f : Format) (text : List ℕ) (result : Result Arguments AllocError) : Type 0 where
  pub only : AreToldArguments f text result
  pub told : (arguments : List FormatArgument) (fault : Option ℕ) → HasArguments f text arguments fault → Tells result arguments fault
