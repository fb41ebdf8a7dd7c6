use Rattle.plural_reference.proofs.exactness.GroupsAgree.{relations_agree, groups_agree, conditions_agree}
use Rattle.plural_reference.proofs.laws.exactness.kept_operands_agree.Goals as goal

pub returns-clause-relations : goal.returns-clause-relations
returns-clause-relations c = relations_agree

pub returns-clause-groups : goal.returns-clause-groups
returns-clause-groups c = groups_agree

pub returns-clause-conditions : goal.returns-clause-conditions
returns-clause-conditions c = conditions_agree
