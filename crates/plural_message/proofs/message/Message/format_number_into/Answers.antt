use Rattle.icu_plurals.specs.Inner.ElementsViews.{lent_value}
use Rattle.plural_message.proofs.Chosen.{kept_element}
use Rattle.plural_message.proofs.message.Message.format_number_into.Goals as goal

pub returns : goal.returns
returns c =
    let x = c.args.number.now in
    let element = lent_value c.get.result in
    let chosen = kept_element _ c.args.self.now c.args.rules.now x.significand.absolute x.exponent c.from-kept.result element
    c.from-kept.ensures.0 c.get.ensures c.self.view_is in
    let exact = c.kept_element_is_exact.ensures c.args.self.now c.args.rules.now x.significand.absolute x.exponent element
    c.from-kept.ensures.1 chosen in
    let wrote = c.fill_into.ensures in
    (wrote.0, wrote.2, (element, chosen, wrote.1), (element, exact, wrote.1))
