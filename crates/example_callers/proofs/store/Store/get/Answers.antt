use Rattle.std.proofs.Common.{◌∙◌, ap, refl}
use Rattle.icu_plurals.specs.Elements.{element_at}
use Rattle.icu_plurals.specs.PackedElements.{PackedValue}
use Rattle.example_callers.proofs.Chosen.{answered_alike}
use Rattle.example_callers.proofs.store.Store.get.Goals as goal

pub returns-clause-kept : goal.returns-clause-kept
returns-clause-kept c =
    λ texts are.
    let store = c.args.self.now in
    let op = c.from-operands.result in (
      element_at texts op store.rules,
      (op, c.from-operands.ensures.0, refl),
      c.get.ensures
          ∙ ap (λ (v : PackedValue). v.text) (answered_alike c.packed_elements_answer.ensures store.texts texts are op store.rules),
    )

pub returns-clause-exact : goal.returns-clause-exact
returns-clause-exact c =
    λ texts are.
    let store = c.args.self.now in
    let x = c.args.number.now in
    let op = c.from-operands.result in
    let value : PackedValue = element_at texts op store.rules in (
      value,
      c.kept_element_is_exact.ensures texts store.rules x.significand.absolute x.exponent value c.from-operands.ensures.1
          (op, c.from-operands.ensures.0, refl),
      c.get.ensures
          ∙ ap (λ (v : PackedValue). v.text) (answered_alike c.packed_elements_answer.ensures store.texts texts are op store.rules),
    )
