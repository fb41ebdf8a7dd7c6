use Rattle.std.proofs.Common.{◌≡◌, ◌++◌, length, flat_map}
use Rattle.po_catalog.specs.Drafts.{with_comma}
use Rattle.po_catalog.specs.PoBytes.{message_flags_of}
use Rattle.po_catalog.proofs.bytes.add_flags.Given as goal

-- the flags before the rest are added
abbrev pub invariant-words : goal.invariant-words
invariant-words l = l.flags.items ++ flat_map with_comma (message_flags_of l.rest)
    ≡ l.initial.flags.items ++ flat_map with_comma (message_flags_of l.comment)

abbrev pub decreases-words : goal.decreases-words
decreases-words l = length l.rest
