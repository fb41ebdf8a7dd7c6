use Rattle.packed_catalog.proofs.EntriesWritten.{ends_go_on, ends_stay_small}
use Rattle.packed_catalog.proofs.packing.push_ends.Goals as goal

pub loop-entry-preserved : goal.loop-entry-preserved
loop-entry-preserved c = record {
  written = ends_go_on c.args.entries.now c.loop-entry.entry-index _ c.loop-entry.bytes.items c.push_both_ends.new.bytes.items _
      c.loop-entry.end c.in_ok-end.end c.loop-entry-test.true c.in_ok-end.ensures.written c.in_ok-end.ensures.end
      c.loop-entry.invariant.written;
  small = ends_stay_small c.args.entries.now c.loop-entry.entry-index _ c.loop-entry.end c.in_ok-end.end c.loop-entry-test.true
      c.in_ok-end.ensures.end c.loop-entry.invariant.small;
}
