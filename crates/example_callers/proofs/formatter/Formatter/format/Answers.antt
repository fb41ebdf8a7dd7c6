use Rattle.std.proofs.Common.{◌≡◌, ◌∙◌, ap, subst, string_bytes}
use Rattle.std.proofs.lemmas.Result.{IfOk-weaker}
use Rattle.icu_plurals.specs.Elements.{Elements, IsKeptElement}
use Rattle.icu_plurals.specs.PackedElements.{PackedValue, elements_of}
use Rattle.plural_message.specs.Messages.{IsMessageOf}
use Rattle.example_callers.proofs.Chosen.{exact_message, kept_message}
use Rattle.example_callers.proofs.formatter.Formatter.format.Goals as goal

pub returns-clause-kept : goal.returns-clause-kept
returns-clause-kept c =
    let formatter = c.args.self.now in
    let number = c.args.number.now in
    let same : c.new-message.result ≡ elements_of formatter.texts = c.new-message.ensures ∙ ap elements_of c.as_packed.ensures in
    IfOk-weaker c.format.result _ _ (λ text said texts are.
    kept_message c.packed_elements_answer.ensures formatter.texts texts are formatter.rules number (string_bytes text)
    (subst (λ (e : Elements PackedValue). IsMessageOf (IsKeptElement e formatter.rules) number (string_bytes text)) same said))
    c.format.ensures.kept

pub returns-clause-exact : goal.returns-clause-exact
returns-clause-exact c =
    let formatter = c.args.self.now in
    let number = c.args.number.now in
    let same : c.new-message.result ≡ elements_of formatter.texts = c.new-message.ensures ∙ ap elements_of c.as_packed.ensures in
    IfOk-weaker c.format.result _ _ (λ text said texts are.
    exact_message c.kept_element_is_exact.ensures texts formatter.rules number (string_bytes text)
    (kept_message c.packed_elements_answer.ensures formatter.texts texts are formatter.rules number (string_bytes text)
    (subst (λ (e : Elements PackedValue). IsMessageOf (IsKeptElement e formatter.rules) number (string_bytes text)) same said)))
    c.format.ensures.kept
