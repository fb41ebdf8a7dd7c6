use Rattle.std.proofs.Common.{length}
use Rattle.std.specs.List.{Contains}
use Rattle.po_catalog.specs.PoBytes.{message_flags_of}
use Rattle.po_catalog.proofs.entry.Entry.has_flag.Given as goal

-- none of the flags before the rest is the name
abbrev pub invariant-flags : goal.invariant-flags
invariant-flags l = record {
  found : Contains (message_flags_of l.rest) l.name → Contains (message_flags_of l.self.flags.items) l.name;
  left : Contains (message_flags_of l.self.flags.items) l.name → Contains (message_flags_of l.rest) l.name;
}

abbrev pub decreases-flags : goal.decreases-flags
decreases-flags l = length l.rest
