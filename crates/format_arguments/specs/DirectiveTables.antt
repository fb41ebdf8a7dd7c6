-- The formats' table: by which bytes directives begin, and which flags, sizes and conversions they
-- have. They are those of gettext's manual, chapters c-format to java-format, and of the languages'
-- own pages.
use Rattle.std.specs.Prelude.{ℕ, ◌==◌, List, [], Bool, true, false, Option, Some, None, codes, if◌then◌else◌}
use Rattle.std.specs.List.{list_any}
use Rattle.format_arguments.specs.declared.argument.Kind.{Kind}
use Rattle.format_arguments.specs.declared.argument.Kind.TheVariants.{Integer, Unsigned, Number, Character, Text, Other}
use Rattle.format_arguments.specs.declared.format.Format.{Format}
use Rattle.format_arguments.specs.declared.format.Format.TheVariants.{C, ObjectiveC, Python, JavaScript, Boost, Qt, QtPlural, Kde, PythonBrace, PerlBrace, Java}

unfoldable pub is_one_of : List ℕ → ℕ → Bool
is_one_of bytes b = list_any (λ x. x == b) bytes

-- ---- how directives look

pub data Family : Type 0 where
  -- as C's printf has them: `%d`, `%1$s`, `%(name)s`
  Printf : Family
  -- a percent sign and a number: `%1`
  Numbered : Family
  -- a name or a number in braces: `{name}`
  Braced : Family

abbrev pub family_of : Format → Family
family_of C = Printf
family_of ObjectiveC = Printf
family_of Python = Printf
family_of JavaScript = Printf
family_of Boost = Printf
family_of Qt = Numbered
family_of QtPlural = Numbered
family_of Kde = Numbered
family_of PythonBrace = Braced
family_of PerlBrace = Braced
family_of Java = Braced

-- the number of the first argument that has no place of its own
abbrev pub first_place : Format → ℕ
first_place PythonBrace = 0
first_place _ = 1

-- ---- printf

abbrev pub flags_of : Format → List ℕ
flags_of C = codes "-+ #0'I"
flags_of ObjectiveC = codes "-+ #0'I"
flags_of Boost = codes "-+ #0'_="
flags_of Python = codes "-+ #0"
flags_of JavaScript = codes "-+ #0I"
flags_of _ = []

-- the letters of which the size of an argument is written, as `ll`
abbrev pub sizes_of : Format → List ℕ
sizes_of C = codes "hlLqjzZt"
sizes_of ObjectiveC = codes "hlLqjzZt"
sizes_of Boost = codes "hlLqjzZt"
sizes_of Python = codes "hlL"
sizes_of _ = []

-- two sizes are two conversions
abbrev pub tells_sizes : Format → Bool
tells_sizes C = true
tells_sizes ObjectiveC = true
tells_sizes _ = false

-- an argument may be a width or a precision: `*`
abbrev pub has_stars : Format → Bool
has_stars JavaScript = false
has_stars _ = true

-- C's macros for sizes, as `<PRIu64>`, which catalogs have in the place of what they stand for
abbrev pub has_macros : Format → Bool
has_macros C = true
has_macros ObjectiveC = true
has_macros _ = false

-- conversions that take no argument
abbrev pub silent_conversions : Format → List ℕ
silent_conversions C = codes "%m"
silent_conversions ObjectiveC = codes "%m"
silent_conversions _ = codes "%"

unfoldable pub c_kind : ℕ → Option Kind
c_kind b =
    if is_one_of (codes "di") b then Some Integer
    else if is_one_of (codes "ouxX") b then Some Unsigned
    else if is_one_of (codes "eEfFgGaA") b then Some Number
    else if is_one_of (codes "cC") b then Some Character
    else if is_one_of (codes "sS") b then Some Text
    else if is_one_of (codes "pn") b then Some (Other b)
    else None

unfoldable pub objective_c_kind : ℕ → Option Kind
objective_c_kind b = if b == 64 then Some (Other b) else c_kind b

unfoldable pub python_kind : ℕ → Option Kind
python_kind b =
    if is_one_of (codes "diouxX") b then Some Integer
    else if is_one_of (codes "eEfFgG") b then Some Number
    else if b == 99 then Some Character
    else if is_one_of (codes "sra") b then Some Text
    else None

unfoldable pub javascript_kind : ℕ → Option Kind
javascript_kind b =
    if is_one_of (codes "dboxX") b then Some Integer
    else if b == 102 then Some Number
    else if b == 99 then Some Character
    else if b == 115 then Some Text
    else if b == 106 then Some (Other b)
    else None

unfoldable pub boost_kind : ℕ → Option Kind
boost_kind b = if is_one_of (codes "ouxX") b then Some Integer else c_kind b

-- what a letter converts
abbrev pub kind_of : Format → ℕ → Option Kind
kind_of ObjectiveC b = objective_c_kind b
kind_of Python b = python_kind b
kind_of JavaScript b = javascript_kind b
kind_of Boost b = boost_kind b
kind_of _ b = c_kind b

-- ---- the flags by which gettext's catalogs name the formats

abbrev pub flag_of : Format → List ℕ
flag_of C = codes "c-format"
flag_of ObjectiveC = codes "objc-format"
flag_of Python = codes "python-format"
flag_of JavaScript = codes "javascript-format"
flag_of Boost = codes "boost-format"
flag_of Qt = codes "qt-format"
flag_of QtPlural = codes "qt-plural-format"
flag_of Kde = codes "kde-format"
flag_of PythonBrace = codes "python-brace-format"
flag_of PerlBrace = codes "perl-brace-format"
flag_of Java = codes "java-format"
