use Rattle.rule_notes.proofs.OwnNumbersFound.{not_taken_if, taken_if}
use Rattle.rule_notes.proofs.earlier_rules.is_taken.Goals as goal

pub returns-then-has_own : goal.returns-then-has_own
returns-then-has_own c =
    taken_if c.args.earlier.now c.args.rule.now c.has_own-then-has_own.result c.if-has_own.ensures c.has_own-then-has_own.ensures

pub returns-else-has_own : goal.returns-else-has_own
returns-else-has_own c = not_taken_if c.args.earlier.now c.args.rule.now c.has_own.result c.if-has_own.false c.has_own.ensures
