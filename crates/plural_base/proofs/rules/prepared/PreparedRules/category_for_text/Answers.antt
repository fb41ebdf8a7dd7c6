use Rattle.plural_operands.specs.Operands.{of_whole}
use Rattle.plural_base.proofs.choice.TextAnswers.{chosen_answer}
use Rattle.plural_base.proofs.rules.prepared.PreparedRules.category_for_text.Goals as goal

pub returns-in-Some : goal.returns-in-Some
returns-in-Some c =
    chosen_answer c.args.self.now c.args.number.now (of_whole c.in-Some.integer) c.category_for_integer.result
    c.kept_choice_is_exact.ensures c.in-Some.ensures.kept c.in-Some.ensures.limit c.category_for_integer.ensures.first
    c.category_for_integer.ensures.member
