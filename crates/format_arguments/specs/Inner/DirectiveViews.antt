-- What private functions return, without where it lies in memory.
use Rattle.std.specs.Prelude.{ℕ, ◌+◌, ◌≤◌, ◌<◌, Bool, List, length, Option, Some, None, ◌||◌, codes}
use Rattle.std.specs.Borrow.{Bor}
use Rattle.format_arguments.specs.declared.directive.Which as whiches
use Rattle.format_arguments.specs.declared.directive.Which.TheVariants as which
use Rattle.format_arguments.specs.declared.directive.Directive as directives
use Rattle.format_arguments.specs.declared.directive.Front as fronts
use Rattle.format_arguments.specs.declared.directive.Front.TheVariants as front
use Rattle.format_arguments.specs.Directives.{Which, Next, At, Named, Directive, PieceFront, End, Takes, Broken, behind_closing}
use Rattle.std.specs.Str.{bytes_eq}

abbrev pub which_view : whiches.Which → Which
which_view which.Next = Next
which_view (which.At n) = At n
which_view (which.Named name) = Named name.now

abbrev pub which_rest_view : Option (whiches.Which × Bor (List ℕ)) → Option (Which × List ℕ)
which_rest_view None = None
which_rest_view (Some found) = Some (which_view found.0, found.1.now)

abbrev pub rest_view : Option (Bor (List ℕ)) → Option (List ℕ)
rest_view None = None
rest_view (Some rest) = Some rest.now

-- what follows the brace that closes, behind a byte of a style
abbrev pub closed_behind : Bool → List ℕ → Option (Bool × ℕ) → Option (List ℕ)
closed_behind quotes s None = Some s
closed_behind quotes s (Some (quoted, depth)) = behind_closing quotes quoted depth s

abbrev pub width_view : ℕ × Bor (List ℕ) → ℕ × List ℕ
width_view width = (width.0, width.1.now)

abbrev pub directive_view : directives.Directive → Directive
directive_view d = record { which = which_view d.which; stars = d.stars; kind = d.kind; size = d.size.now }

abbrev pub says_view : Option directives.Directive → Option Directive
says_view None = None
says_view (Some d) = Some (directive_view d)

abbrev pub piece_front_view : fronts.Front → PieceFront
piece_front_view front.End = End
piece_front_view (front.Takes says rest) = Takes (says_view says) rest.now
piece_front_view front.Broken = Broken

-- how many bytes a directive has at least
abbrev pub least_width : Option directives.Directive → ℕ
least_width None = 0
least_width (Some d) = d.stars + 1

-- what follows is shorter, by the bytes that a directive has at least
abbrev pub LeavesLess : fronts.Front → ℕ → Type 0
LeavesLess front.End n = Unit {0}
LeavesLess (front.Takes says rest) n = least_width says + length rest.now ≤ n
LeavesLess front.Broken n = Unit {0}

-- what follows which argument it is
abbrev pub IsNotLonger : Option (whiches.Which × Bor (List ℕ)) → ℕ → Type 0
IsNotLonger None n = Unit {0}
IsNotLonger (Some found) n = length found.1.now ≤ n

-- the same where some byte was taken
abbrev pub Shortens : fronts.Front → ℕ → Type 0
Shortens front.End n = Unit {0}
Shortens (front.Takes says rest) n = least_width says + length rest.now < n
Shortens front.Broken n = Unit {0}

-- ---- part of the words that name a number, for a private contract

-- the longer ones of these words
abbrev pub is_long_number_word : List ℕ → Bool
is_long_number_word word =
    bytes_eq word (codes "number") || bytes_eq word (codes "count") || bytes_eq word (codes "cnt") || bytes_eq word (codes "amount")
    || bytes_eq word (codes "quantity")
