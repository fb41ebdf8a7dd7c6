use Rattle.std.proofs.lemmas.Result.{err_from_is_err_and}
use Rattle.plural_exports.proofs.Steps.{passed_on}
use Rattle.plural_exports.proofs.Texts.{not_texts, texts_read}
use Rattle.plural_exports.specs.Inner.GivenResults.{lent_five}
use Rattle.plural_exports.proofs.rules.given_texts.Goals as goal

pub returns-in_err-given : goal.returns-in_err-given
returns-in_err-given c =
    not_texts (lent_five c.args.texts.now) c.in_err-given.field-0.0 c.from_residual.result
    (passed_on _ _ (err_from_is_err_and c.from_residual.result c.from_residual.ensures.1))
    c.in_err-given.ensures.0 (λ all. c.in_err-given.ensures.1 all.zero)

pub returns-in_err-given-2 : goal.returns-in_err-given-2
returns-in_err-given-2 c =
    not_texts (lent_five c.args.texts.now) c.in_err-given-2.field-0.0 c.from_residual-in_err-given-2.result
    (passed_on _ _ (err_from_is_err_and c.from_residual-in_err-given-2.result c.from_residual-in_err-given-2.ensures.1))
    c.in_err-given-2.ensures.0 (λ all. c.in_err-given-2.ensures.1 all.one)

pub returns-in_err-given-3 : goal.returns-in_err-given-3
returns-in_err-given-3 c =
    not_texts (lent_five c.args.texts.now) c.in_err-given-3.field-0.0 c.from_residual-in_err-given-3.result
    (passed_on _ _ (err_from_is_err_and c.from_residual-in_err-given-3.result c.from_residual-in_err-given-3.ensures.1))
    c.in_err-given-3.ensures.0 (λ all. c.in_err-given-3.ensures.1 all.two)

pub returns-in_err-given-4 : goal.returns-in_err-given-4
returns-in_err-given-4 c =
    not_texts (lent_five c.args.texts.now) c.in_err-given-4.field-0.0 c.from_residual-in_err-given-4.result
    (passed_on _ _ (err_from_is_err_and c.from_residual-in_err-given-4.result c.from_residual-in_err-given-4.ensures.1))
    c.in_err-given-4.ensures.0 (λ all. c.in_err-given-4.ensures.1 all.few)

pub returns-in_err-given-5 : goal.returns-in_err-given-5
returns-in_err-given-5 c =
    not_texts (lent_five c.args.texts.now) c.in_err-given-5.field-0.0 c.from_residual-in_err-given-5.result
    (passed_on _ _ (err_from_is_err_and c.from_residual-in_err-given-5.result c.from_residual-in_err-given-5.ensures.1))
    c.in_err-given-5.ensures.0 (λ all. c.in_err-given-5.ensures.1 all.many)

pub returns : goal.returns
returns c =
    texts_read (lent_five c.args.texts.now) _ _ _ _ _
    c.in_ok-given.ensures c.in_ok-given-2.ensures c.in_ok-given-3.ensures c.in_ok-given-4.ensures c.in_ok-given-5.ensures
