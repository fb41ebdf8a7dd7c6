use Rattle.std.proofs.Common.{◌≡◌, ◌++◌, drop, string_bytes}
use Rattle.std.specs.List.{flat_map}
use Rattle.finding_formats.specs.FileReferences.{path_byte}
use Rattle.finding_formats.proofs.reference.push_path.Given as goal

-- the text so far, and then the remaining bytes
abbrev pub invariant-loop-byte : goal.invariant-loop-byte
invariant-loop-byte l =
    string_bytes l.text ++ flat_map path_byte (drop l.byte-index l.path)
    ≡ string_bytes l.initial.text ++ flat_map path_byte l.path
