use Rattle.std.proofs.Common.{length}
use Rattle.gettext_plural.specs.Inner.FormulaViews.{HasTaken, stage_view}
use Rattle.gettext_plural.proofs.reader.read.Given as goal

-- the text is read up to the rest
abbrev pub invariant-bytes : goal.invariant-bytes
invariant-bytes l = HasTaken l.text (stage_view l.pending.items l.operand) l.rest

abbrev pub decreases-bytes : goal.decreases-bytes
decreases-bytes l = length l.rest
