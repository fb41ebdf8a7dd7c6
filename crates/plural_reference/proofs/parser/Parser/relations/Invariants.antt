use Rattle.std.proofs.Common.{[], length}
use Rattle.plural_reference.specs.RelationSinks.{Before}
use Rattle.plural_reference.specs.Inner.Reader.{Completes, begin}
use Rattle.plural_reference.proofs.parser.Parser.relations.Given as goal

-- the relations so far are read, and the sink holds them
abbrev pub invariant-joints : goal.invariant-joints
invariant-joints g l = (before : Before) × g.S.RelationSink.holds l.sink before [] × Completes begin l.fn.self before l.self

abbrev pub decreases-joints : goal.decreases-joints
decreases-joints g l = length l.self
