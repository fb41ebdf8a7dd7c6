use Rattle.std.proofs.Common.{sym, ◌∙◌}
use Rattle.rule_notes.proofs.OwnNumbersFound.{none_beside_all, own_if}
use Rattle.rule_notes.proofs.own_numbers.has_own.Goals as goal

pub returns-then-has_all : goal.returns-then-has_all
returns-then-has_all c = none_beside_all c.args.earlier.now c.args.rule.now (sym c.has_all.ensures ∙ c.if-has_all.true)

pub returns : goal.returns
returns c =
    own_if c.args.earlier.now c.args.rule.now c.has_whole-2.result c.if-has_whole.ensures c.if-has_decimal.ensures c.if-has_decimal-2.ensures
    c.has_whole-2.ensures
