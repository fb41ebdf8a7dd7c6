use Rattle.std.proofs.Common.{◌≡◌, ◌++◌, ℕ, List}
use Rattle.std.specs.Fmt.{HasWritten, IsPlainFormatter}
use Rattle.std.specs.List.{flat_map}
use Rattle.std.specs.Str.Iter.{chars_rest}
use Rattle.plural_documents.specs.PrintedKeys.{escaped_key, printed_byte}
use Rattle.plural_documents.proofs.printed_key.write_escaped.Given as goal

-- what was written, and what is printed of the remaining characters
abbrev pub invariant-loop-c : goal.invariant-loop-c
invariant-loop-c g l =
    (wrote : List ℕ) × (wrote ++ flat_map printed_byte (chars_rest l.c-iterator) ≡ escaped_key l.key)
    × (IsPlainFormatter l.initial.f → HasWritten g.W.Write.write_str_gives l.initial.f wrote l.f)
