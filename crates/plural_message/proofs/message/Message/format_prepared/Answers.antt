use Rattle.std.proofs.Common.{Result, Err, String, ◌∙◌, ap, sym, subst}
use Rattle.std.specs.declared.alloc.Global.{Global}
use Rattle.std.proofs.lemmas.Result.{err_from_is_err_and}
use Rattle.icu_plurals.specs.Inner.ElementsViews.{lent_value}
use Rattle.plural_message.proofs.Chosen.{kept_element}
use Rattle.plural_message.proofs.Given.{HasFaultsOf, is_given, is_lacking, is_refused}
use Rattle.plural_message.specs.declared.error.MessageError.{MessageError}
use Rattle.plural_message.specs.Messages.{GivesMessage}
use Rattle.plural_message.proofs.message.Message.format_prepared.Goals as goal

pub returns : goal.returns
returns c =
    let number = c.in_ok-op.ensures.kept in
    let x = number.0 in
    let element = lent_value c.get_prepared.result in
    let chosen = kept_element _ c.args.self.now c.args.rules.now x.significand.absolute x.exponent c.in_ok-op.op element
    number.4 c.get_prepared.ensures c.self.view_is in
    let exact = c.kept_element_is_exact.ensures c.args.self.now c.args.rules.now x.significand.absolute x.exponent element
    number.1.2.1.digits chosen in
    let faults : HasFaultsOf c.args.number.now c.from_compact_text.result = (c.from_compact_text.ensures.syntax, c.from_compact_text.ensures.limit) in
    is_given c.args.self.now c.args.rules.now c.args.number.now c.from_compact_text.result c.in_ok-op.op _ faults c.in_ok-op.was
    (x, number.1, (element, chosen, c.in_ok-fill.ensures)) (x, number.1, (element, exact, c.in_ok-fill.ensures))

pub returns-in_err-op : goal.returns-in_err-op
returns-in_err-op c =
    let p = err_from_is_err_and c.from_residual.result c.from_residual.ensures.1 in
    let faults : HasFaultsOf c.args.number.now c.from_compact_text.result = (c.from_compact_text.ensures.syntax, c.from_compact_text.ensures.limit) in
    let P : Result (String Global) MessageError → Type 0 = λ answer. GivesMessage c.args.self.now c.args.rules.now c.args.number.now answer in
    subst P (sym (p.1 ∙ ap Err p.2))
    (is_refused c.args.self.now c.args.rules.now c.args.number.now c.from_compact_text.result c.in_err-op.field-0.0 faults c.in_err-op.was)

pub returns-in_err-fill : goal.returns-in_err-fill
returns-in_err-fill c =
    let p = err_from_is_err_and c.from_residual-in_err-fill.result c.from_residual-in_err-fill.ensures.1 in
    let faults : HasFaultsOf c.args.number.now c.from_compact_text.result = (c.from_compact_text.ensures.syntax, c.from_compact_text.ensures.limit) in
    let P : Result (String Global) MessageError → Type 0 = λ answer. GivesMessage c.args.self.now c.args.rules.now c.args.number.now answer in
    subst P (sym (p.1 ∙ ap Err p.2))
    (is_lacking c.args.self.now c.args.rules.now c.args.number.now c.from_compact_text.result c.in_ok-op.op faults c.in_ok-op.was)
