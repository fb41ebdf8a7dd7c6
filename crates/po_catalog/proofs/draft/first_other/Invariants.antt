use Rattle.std.proofs.Common.{◌≡◌}
use Rattle.po_catalog.proofs.OtherTexts.{other_from}
use Rattle.po_catalog.proofs.draft.first_other.Given as goal

-- the bytes of each text before this one are UTF-8
abbrev pub invariant-loop-text : goal.invariant-loop-text
invariant-loop-text l = other_from l.texts 0 ≡ other_from l.texts l.text-index
