use Rattle.plural_base.proofs.choice.OrderedTruth.{truth_is_told}
use Rattle.plural_base.proofs.rules.ordered.rule.OrderedRule.is_true.Goals as goal

pub loop-relation-init : goal.loop-relation-init
loop-relation-init c = truth_is_told c.args.operands.now c.args.self.now
