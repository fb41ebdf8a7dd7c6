use Rattle.std.proofs.Common.{◌≡◌, ◌+◌, ◌*◌, ◌≤◌, length, take}
use Rattle.std.specs.List.{flat_map}
use Rattle.plural_documents.specs.PrintedKeys.{printed_byte}
use Rattle.plural_documents.proofs.printed_key.escape_count.Given as goal

-- what is printed of the bytes so far has three bytes more for each escape
abbrev pub invariant-loop-byte : goal.invariant-loop-byte
invariant-loop-byte l =
    (l.count ≤ l.byte-index)
    × (length (flat_map printed_byte (take l.byte-index l.key)) ≡ l.byte-index + 3 * l.count)
