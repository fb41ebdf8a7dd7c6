use Rattle.std.proofs.Common.{Result, subst, sym}
use Rattle.std.proofs.lemmas.Result.{err_from_is_err_and}
use Rattle.plural_queries.specs.LookupAnswers.{AnswersFrom}
use Rattle.plural_queries.specs.Input.{RuledElements, elements_for}
use Rattle.plural_queries.specs.CallAnswers.{GivesAnswerText}
use Rattle.plural_queries.specs.QueryViews.{document_view}
use Rattle.plural_queries.specs.Lines.{IsMessageLine}
use Rattle.plural_queries.specs.declared.error.RunError.{RunError}
use Rattle.plural_queries.proofs.Faults.{handed_on, nothing_given}
use Rattle.plural_queries.proofs.message_command.message_line.Goals as goal

pub returns-in_err-given : goal.returns-in_err-given
returns-in_err-given c =
    nothing_given (IsMessageLine c.args.number.now c.args.word.now)
    (elements_for c.args.rule_type c.args.locale.now (document_view c.args.document.now))
    c.in_err-given.field-0.0 c.from_residual.result
    (handed_on _ _ (err_from_is_err_and c.from_residual.result c.from_residual.ensures.1)) c.in_err-given.ensures

pub returns : goal.returns
returns c =
    subst (λ (given : Result RuledElements RunError). GivesAnswerText (AnswersFrom (IsMessageLine c.args.number.now c.args.word.now) given)
    c.line_of-line.result)
    (sym c.in_ok-given.ensures) c.line_of-line.ensures
