use Rattle.std.proofs.lemmas.Result.{IfOk-weaker}
use Rattle.icu_plurals.specs.Inner.ElementsViews.{lent_value}
use Rattle.plural_message.proofs.Chosen.{kept_element}
use Rattle.plural_message.proofs.message.Message.format_number.Goals as goal

pub returns-clause-kept : goal.returns-clause-kept
returns-clause-kept c =
    let x = c.args.number.now in
    let element = lent_value c.get.result in
    let chosen = kept_element _ c.args.self.now c.args.rules.now x.significand.absolute x.exponent c.from-operands.result element
    c.from-operands.ensures.0 c.get.ensures c.self.view_is in
    IfOk-weaker c.fill.result _ _ (λ filled h. (element, chosen, h)) c.fill.ensures

pub returns-clause-exact : goal.returns-clause-exact
returns-clause-exact c =
    let x = c.args.number.now in
    let element = lent_value c.get.result in
    let chosen = kept_element _ c.args.self.now c.args.rules.now x.significand.absolute x.exponent c.from-operands.result element
    c.from-operands.ensures.0 c.get.ensures c.self.view_is in
    let exact = c.kept_element_is_exact.ensures c.args.self.now c.args.rules.now x.significand.absolute x.exponent element
    c.from-operands.ensures.1 chosen in
    IfOk-weaker c.fill.result _ _ (λ filled h. (element, exact, h)) c.fill.ensures
