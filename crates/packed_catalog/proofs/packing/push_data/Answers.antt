use Rattle.packed_catalog.proofs.EntriesWritten.{data_goes_on}
use Rattle.packed_catalog.proofs.packing.push_data.Goals as goal

pub loop-entry-preserved : goal.loop-entry-preserved
loop-entry-preserved c =
    data_goes_on c.args.entries.now c.loop-entry.entry-index _ c.loop-entry.bytes.items c.extend_from_slice.new.self.items
    c.extend_from_slice-in-loop-entry.new.self.items _ c.loop-entry-test.true
    c.in_ok-extend_from_slice.ensures.items c.in_ok-extend_from_slice-2.ensures.items c.loop-entry.invariant
