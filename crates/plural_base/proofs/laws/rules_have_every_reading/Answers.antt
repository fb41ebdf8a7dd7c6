use Rattle.plural_base.proofs.reading.EveryReading.{every_rule, every_condition, every_answer}
use Rattle.plural_base.proofs.laws.rules_have_every_reading.Goals as goal

pub returns-clause-rules : goal.returns-clause-rules
returns-clause-rules c = every_rule c.one_list_of_tokens.ensures c.one_reading.ensures

pub returns-clause-conditions : goal.returns-clause-conditions
returns-clause-conditions c = every_condition c.one_list_of_tokens.ensures c.one_reading.ensures

pub returns-clause-answers : goal.returns-clause-answers
returns-clause-answers c = every_answer c.one_list_of_tokens.ensures c.one_reading.ensures
