use Rattle.std.proofs.Common.{Ok, Err, ap, refl}
use Rattle.std.proofs.lemmas.Result.{err_from_is_err_and}
use Rattle.icu_plurals.specs.Elements.{IsKeptElement, element_at}
use Rattle.icu_plurals.specs.Inner.ElementsViews.{lent_elements}
use Rattle.icu_plurals.specs.PackedElements.{PackedValue, elements_of as values_of}
use Rattle.plural_exports.proofs.Steps.{passed_on}
use Rattle.plural_exports.proofs.elements.element_under.Goals as goal

pub returns-in_err-elements : goal.returns-in_err-elements
returns-in_err-elements c =
    let e = c.in_err-elements.field-0.0 in
    rw (passed_on c.from_residual.result e (err_from_is_err_and c.from_residual.result c.from_residual.ensures.1))
    (Err e, c.in_err-elements.ensures, refl)

pub returns-in_err-number : goal.returns-in_err-number
returns-in_err-number c =
    let e = c.in_err-number.field-0.0 in
    let residual = c.from_residual-in_err-number in
    rw (passed_on residual.result e (err_from_is_err_and residual.result residual.ensures.1))
    (Ok (lent_elements c.in_ok-elements.elements), c.in_ok-elements.ensures, (Err e, c.in_err-number.ensures, refl))

pub returns : goal.returns
returns c =
    let rules = c.args.rules.now in
    let elements = lent_elements c.in_ok-elements.elements in
    let digits = c.in_ok-number.number.significand.absolute in
    let exponent = c.in_ok-number.number.exponent in
    let element : PackedValue = element_at (values_of elements) c.from.result rules in
    let kept : IsKeptElement (values_of elements) rules digits exponent element = (c.from.result, c.from.ensures.0, refl) in
    let exact = c.kept_element_is_exact.ensures (values_of elements) rules digits exponent element c.from.ensures.1 kept in (
      Ok elements,
      c.in_ok-elements.ensures,
      (Ok c.in_ok-number.number, c.in_ok-number.ensures, (element, ap (λ (value : PackedValue). value.text) c.get.ensures, (kept, exact))),
    )
