use Rattle.std.proofs.Common.{[], take}
use Rattle.rule_notes.specs.Inner.CauseLists.{Adds}
use Rattle.rule_notes.specs.RuleNotes.{AreRuleNotes}
use Rattle.rule_notes.proofs.notes.add_notes.Given as goal

-- what the rules so far add
abbrev pub invariant-loop-index : goal.invariant-loop-index
invariant-loop-index l = Adds (AreRuleNotes [] (take l.index l.rules)) l.initial.notes.items l.notes.items
