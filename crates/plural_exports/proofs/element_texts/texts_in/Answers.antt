use Rattle.std.proofs.Common.{List, ℕ, Option, ap}
use Rattle.std.proofs.lemmas.Result.{err_from_is_err_and}
use Rattle.icu_plurals.specs.declared.Five.{Five}
use Rattle.plural_exports.specs.Inner.GivenResults.{lent_eight}
use Rattle.plural_exports.proofs.ElementTexts.{not_all_texts, packed_texts}
use Rattle.plural_exports.proofs.Steps.{passed_on}
use Rattle.plural_exports.proofs.element_texts.texts_in.Goals as goal

pub returns-in_err-five : goal.returns-in_err-five
returns-in_err-five c =
    let residual = c.from_residual-in_err-five in
    not_all_texts (lent_eight c.args.texts.now) c.in_err-five.field-0.0 residual.result
    (passed_on _ _ (err_from_is_err_and residual.result residual.ensures.1)) c.in_err-five.ensures.0
    (λ all. c.in_err-five.ensures.1 (record { zero = all.zero; one = all.one; two = all.two; few = all.few; many = all.many }))

pub returns : goal.returns
returns c =
    let utf8 = c.in_ok-five.ensures.0 in
    let given = c.in_ok-five.ensures.1 in (
      record {
        other = c.in_ok-other.ensures.0;
        zero = utf8.zero;
        one = utf8.one;
        two = utf8.two;
        few = utf8.few;
        many = utf8.many;
        explicit_zero = c.in_ok-explicit_zero.ensures.0;
        explicit_one = c.in_ok-explicit_one.ensures.0;
      },
      packed_texts c.in_ok-other.other c.in_ok-five.five c.in_ok-explicit_zero.explicit_zero c.in_ok-explicit_one.explicit_one
          c.elements_with.result (lent_eight c.args.texts.now) c.elements_with.ensures c.in_ok-other.ensures.1
          (ap (λ (texts : Five (Option (List ℕ))). texts.zero) given) (ap (λ (texts : Five (Option (List ℕ))). texts.one) given)
          (ap (λ (texts : Five (Option (List ℕ))). texts.two) given) (ap (λ (texts : Five (Option (List ℕ))). texts.few) given)
          (ap (λ (texts : Five (Option (List ℕ))). texts.many) given) c.in_ok-explicit_zero.ensures.1 c.in_ok-explicit_one.ensures.1,
    )
