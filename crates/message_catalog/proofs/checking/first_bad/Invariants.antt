use Rattle.message_catalog.proofs.MessagesRefused.{AreGoodBefore}
use Rattle.message_catalog.proofs.checking.first_bad.Given as goal

-- The values so far are packed patterns, and have no fault.
abbrev pub invariant-loop-index : goal.invariant-loop-index
invariant-loop-index l = AreGoodBefore l.catalog l.index
