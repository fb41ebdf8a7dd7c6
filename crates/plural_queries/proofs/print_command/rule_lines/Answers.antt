use Rattle.std.proofs.Common.{Result, subst, sym}
use Rattle.std.proofs.lemmas.Result.{err_from_is_err_and}
use Rattle.icu_plurals.specs.FiveRules.{FiveRules}
use Rattle.plural_queries.specs.LookupAnswers.{AnswersFrom}
use Rattle.plural_queries.specs.CallAnswers.{GivesAnswerText}
use Rattle.plural_queries.specs.declared.error.RunError.{RunError}
use Rattle.plural_queries.specs.Input.{rules_for}
use Rattle.plural_queries.specs.QueryViews.{document_view}
use Rattle.plural_queries.specs.Lines.{AreRuleLines}
use Rattle.plural_queries.proofs.Faults.{handed_on, nothing_given}
use Rattle.plural_queries.proofs.print_command.rule_lines.Goals as goal

pub returns-in_err-rules : goal.returns-in_err-rules
returns-in_err-rules c =
    nothing_given AreRuleLines (rules_for c.args.rule_type c.args.locale.now (document_view c.args.document.now))
    c.in_err-rules.field-0.0 c.from_residual.result
    (handed_on _ _ (err_from_is_err_and c.from_residual.result c.from_residual.ensures.1)) c.in_err-rules.ensures

pub returns : goal.returns
returns c =
    subst (λ (rules : Result FiveRules RunError). GivesAnswerText (AnswersFrom AreRuleLines rules) c.answer_of-lines.result)
    (sym c.in_ok-rules.ensures) c.answer_of-lines.ensures
