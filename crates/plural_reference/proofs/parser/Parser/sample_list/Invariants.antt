use Rattle.std.proofs.Common.{◌≤◌, length}
use Rattle.plural_reference.specs.Inner.SampleReading.SampleReader.{ReadsStored, ReadsRanges}
use Rattle.plural_reference.proofs.parser.Parser.sample_list.Given as goal

-- the ranges so far are read
abbrev pub invariant-list : goal.invariant-list
invariant-list g l = record {
  read : ReadsStored g.S.Sink.keeps ReadsRanges l.fn.self l.ranges.items l.self;
  shorter : length l.self ≤ length l.fn.self;
}

abbrev pub decreases-list : goal.decreases-list
decreases-list g l = length l.self
