use Rattle.std.proofs.Common.{length}
use Rattle.plural_reference.specs.Inner.SampleReading.SampleReader.{ReadsStored, ReadsLists}
use Rattle.plural_reference.proofs.parser.Parser.samples.Given as goal

-- the lists so far are read
abbrev pub invariant-lists : goal.invariant-lists
invariant-lists g l = ReadsStored g.S.Sink.keeps ReadsLists l.fn.self l.samples l.self

abbrev pub decreases-lists : goal.decreases-lists
decreases-lists g l = length l.self
