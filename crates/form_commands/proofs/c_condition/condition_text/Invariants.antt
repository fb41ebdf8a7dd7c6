use Rattle.form_commands.proofs.JoinLemmas.{IsTaken}
use Rattle.form_commands.proofs.c_condition.condition_text.Given as goal

-- the relations that are taken, cut into groups, and those that are left
abbrev pub invariant-loop-item : goal.invariant-loop-item
invariant-loop-item l = IsTaken l.rule l.item-iterator l.ended l.current
