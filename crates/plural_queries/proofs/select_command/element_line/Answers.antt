use Rattle.std.proofs.Common.{ap, refl}
use Rattle.std.proofs.lemmas.Result.{err_from_is_err_and}
use Rattle.icu_plurals.specs.Elements.{IsKeptElement, element_at}
use Rattle.icu_plurals.specs.PackedElements.{PackedValue, elements_of as values_of}
use Rattle.plural_queries.specs.Input.{elements_for}
use Rattle.plural_queries.specs.QueryViews.{document_view, elements_view}
use Rattle.plural_queries.specs.Lines.{IsElementLine, line}
use Rattle.plural_queries.proofs.Faults.{handed_on, line_given, nothing_given}
use Rattle.plural_queries.proofs.select_command.element_line.Goals as goal

pub returns-in_err-given : goal.returns-in_err-given
returns-in_err-given c =
    nothing_given (IsElementLine c.args.number.now)
    (elements_for c.args.rule_type c.args.locale.now (document_view c.args.document.now))
    c.in_err-given.field-0.0 c.from_residual.result
    (handed_on _ _ (err_from_is_err_and c.from_residual.result c.from_residual.ensures.1)) c.in_err-given.ensures

pub returns : goal.returns
returns c =
    let given = elements_view c.in_ok-given.given in
    let digits = c.args.number.now.significand.absolute in
    let exponent = c.args.number.now.exponent in
    let element : PackedValue = element_at (values_of given.elements) c.from-operands.result given.rules in
    let kept : IsKeptElement (values_of given.elements) given.rules digits exponent element
    = (c.from-operands.result, c.from-operands.ensures.0, refl) in
    let exact = c.kept_element_is_exact.ensures (values_of given.elements) given.rules digits exponent element
    c.from-operands.ensures.1 kept in
    line_given (IsElementLine c.args.number.now)
    (elements_for c.args.rule_type c.args.locale.now (document_view c.args.document.now)) given (line c.get-text.result.now)
    c.line-answer.result
    c.in_ok-given.ensures (element, ap line c.get-text.ensures, (kept, exact)) c.line-answer.ensures
