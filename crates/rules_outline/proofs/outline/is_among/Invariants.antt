use Rattle.std.proofs.Common.{◌≡◌, length}
use Rattle.rules_outline.specs.Inner.RulesOutline.{is_among, steps_view}
use Rattle.rules_outline.proofs.outline.is_among.Given as goal

-- no locale so far is the same
abbrev pub invariant-loop-rest : goal.invariant-loop-rest
invariant-loop-rest l = is_among l.locale (steps_view l.steps) ≡ is_among l.locale (steps_view l.rest)

abbrev pub decreases-loop-rest : goal.decreases-loop-rest
decreases-loop-rest l = length l.rest
