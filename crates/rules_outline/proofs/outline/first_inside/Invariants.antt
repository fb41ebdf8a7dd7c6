use Rattle.std.proofs.Common.{◌-◌}
use Rattle.serde_json.specs.View.{view}
use Rattle.rules_outline.proofs.OutlineStays.{IsAt}
use Rattle.rules_outline.proofs.outline.first_inside.Given as goal

-- the current locale is the one after so many steps
abbrev pub invariant-loop-steps : goal.invariant-loop-steps
invariant-loop-steps l = IsAt l.locales (view l.document) l.part l.locale l.steps l.current

abbrev pub decreases-loop-steps : goal.decreases-loop-steps
decreases-loop-steps l = 16 - l.steps
