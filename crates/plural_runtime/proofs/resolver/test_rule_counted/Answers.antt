use Rattle.std.proofs.Common.{◌∙◌, arith}
use Rattle.plural_runtime.specs.PackedTruth.{needed_ranges}
use Rattle.plural_runtime.proofs.counting.Counts.{capped_count}
use Rattle.plural_runtime.proofs.resolver.test_rule_counted.Goals as goal

pub returns-clause-count : goal.returns-clause-count
returns-clause-count c = c.is_true.ensures.count
    ∙ capped_count (needed_ranges c.args.operands.now c.args.rule.now) c.args.steps.now (omega (arith, c.count-before.ensures))

pub returns-clause-at_most : goal.returns-clause-at_most
returns-clause-at_most c = omega (arith, returns-clause-count c, c.at_most_all.ensures c.args.operands.now c.args.rule.now)
