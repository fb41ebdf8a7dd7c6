-- When an argument of a translation stands for one of its source.
use Rattle.std.specs.Prelude.{ℕ, ◌==◌, ◌&&◌, ◌||◌, List, [], Bool, true, false, codes, bytes_eq, if◌then◌else◌}
use Rattle.format_arguments.specs.declared.argument.Argument.{Argument}
use Rattle.format_arguments.specs.declared.argument.Kind.{Kind}
use Rattle.format_arguments.specs.declared.argument.Kind.TheVariants.{Integer, Unsigned, Number, Character, Text, Other, Unknown}
use Rattle.format_arguments.specs.declared.argument.Name as names
use Rattle.format_arguments.specs.declared.argument.Name.TheVariants.{Place, Word}

abbrev pub is_same_name : names.Name → names.Name → Bool
is_same_name (Place m) (Place n) = m == n
is_same_name (Word a) (Word b) = bytes_eq a.now b.now
is_same_name _ _ = false

abbrev pub is_same_kind : Kind → Kind → Bool
is_same_kind Integer Integer = true
is_same_kind Unsigned Unsigned = true
is_same_kind Number Number = true
is_same_kind Character Character = true
is_same_kind Text Text = true
is_same_kind (Other m) (Other n) = m == n
is_same_kind Unknown Unknown = true
is_same_kind _ _ = false

abbrev pub is_unknown_kind : Kind → Bool
is_unknown_kind Unknown = true
is_unknown_kind _ = false

-- ---- sizes that are one, though they are written otherwise

-- `long long`, or `long double`
abbrev pub is_long_long : List ℕ → Bool
is_long_long size = bytes_eq size (codes "ll") || bytes_eq size (codes "L") || bytes_eq size (codes "q")

-- `Z` is what `z` was
abbrev pub integer_size : List ℕ → List ℕ
integer_size size = if is_long_long size then codes "ll" else (if bytes_eq size (codes "Z") then codes "z" else size)

-- `%lf` is `%f`
abbrev pub number_size : List ℕ → List ℕ
number_size size = if is_long_long size then codes "ll" else []

-- of wide characters, or it isn't
abbrev pub text_size : List ℕ → List ℕ
text_size size = if is_long_long size || bytes_eq size (codes "l") then codes "l" else []

-- one of the ways to write the size of an argument of the kind
abbrev pub size_said : Kind → List ℕ → List ℕ
size_said Number size = number_size size
size_said Character size = text_size size
size_said Text size = text_size size
size_said _ size = integer_size size

-- ---- arguments that are one

abbrev pub is_same_size : Argument → Argument → Bool
is_same_size a b = bytes_eq (size_said a.kind a.size.now) (size_said b.kind b.size.now)

-- they convert alike, or one of them doesn't say what it converts
unfoldable pub converts_alike : Argument → Argument → Bool
converts_alike a b = is_unknown_kind a.kind || is_unknown_kind b.kind || (is_same_kind a.kind b.kind && is_same_size a b)

-- the same place or name, and they convert alike
unfoldable pub stands_for : Argument → Argument → Bool
stands_for source translation = is_same_name source.name translation.name && converts_alike source translation
