use Rattle.std.proofs.Common.{◌≡◌, ◌++◌}
use Rattle.rule_notes.specs.RuleNotes.{notes_under}
use Rattle.rule_notes.proofs.notes.add_under.Given as goal

-- the causes so far, under the category
abbrev pub invariant-loop-cause : goal.invariant-loop-cause
invariant-loop-cause l = l.notes.items ≡ l.initial.notes.items ++ notes_under l.category l.yielded
