use Rattle.std.proofs.Common.{take}
use Rattle.std.specs.Fmt.{WritesInCalls}
use Rattle.plural_reference.specs.Serializer.{joined}
use Rattle.plural_reference.proofs.serializer.part.serialize_joined.Given as goal

-- the parts so far are written
abbrev pub invariant-loop-index : goal.invariant-loop-index
invariant-loop-index g l =
    WritesInCalls g.W.Write.write_str_gives l.fn.w (joined l.separator g.P.Part.text (take l.index l.parts)) l.w
