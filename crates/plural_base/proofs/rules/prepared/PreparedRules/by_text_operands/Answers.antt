use Rattle.std.proofs.Common.{Err, refl}
use Rattle.plural_base.proofs.choice.TextAnswers.{no_error, chosen_answer, refused_answer}
use Rattle.plural_base.proofs.rules.prepared.PreparedRules.by_text_operands.Goals as goal

pub returns-in-Ok : goal.returns-in-Ok
returns-in-Ok c =
    chosen_answer c.args.self.now c.args.number.now c.in-Ok.operands c.category_for.result c.kept_choice_is_exact.ensures
    c.in-Ok.ensures.kept (λ over. no_error _ _ (c.in-Ok.ensures.limit.1 over)) c.category_for.ensures.first c.category_for.ensures.member

pub returns-in-Err : goal.returns-in-Err
returns-in-Err c =
    refused_answer c.args.self.now c.args.number.now c.in-Err.error (Err c.in-Err.error) refl c.in-Err.ensures.syntax
    c.in-Err.ensures.limit c.in-Err.ensures.inline
