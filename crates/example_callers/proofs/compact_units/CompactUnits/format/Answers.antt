use Rattle.std.proofs.Common.{Err, ap, ◌∙◌, ℕ, string_bytes}
use Rattle.std.proofs.lemmas.Result.{err_from_is_err_and}
use Rattle.icu_plurals.specs.Elements.{Elements, IsExactElement, IsKeptElement}
use Rattle.icu_plurals.specs.PackedElements.{PackedValue}
use Rattle.example_callers.specs.CompactUnits.{shown_of, unit_of}
use Rattle.example_callers.proofs.Chosen.{same_message}
use Rattle.example_callers.proofs.NumberFaults.{handed_on}
use Rattle.example_callers.proofs.compact_units.CompactUnits.format.Goals as goal

pub returns-in_err-compact-clause-syntax : goal.returns-in_err-compact-clause-syntax
returns-in_err-compact-clause-syntax c =
    let p = err_from_is_err_and c.from_residual.result c.from_residual.ensures.1 in
    handed_on c.from_str.result c.from_residual.result c.in_err-compact.field-0.0 c.in_err-compact.was (p.1 ∙ ap Err p.2)
    c.from_str.ensures.syntax

pub returns-clause-kept : goal.returns-clause-kept
returns-clause-kept c =
    let x = c.in_ok-compact.compact in
    let units = c.args.self.now in
    let number = c.args.number.now in
    let said = c.said_by in (
      x,
      c.in_ok-compact.ensures.number.0,
      same_message (λ (texts : Elements PackedValue). IsKeptElement texts c.args.rules.now) said.result.0.now (unit_of units x.exponent)
          said.result.1.now (shown_of x.exponent number) x (string_bytes c.in_ok-format_number.field-0)
          (said.ensures.texts ∙ ap (λ (e : ℕ). unit_of units e) c.exponent.ensures)
          (said.ensures.shown ∙ ap (λ (e : ℕ). shown_of e number) c.exponent.ensures) c.in_ok-format_number.ensures.kept,
    )

pub returns-clause-exact : goal.returns-clause-exact
returns-clause-exact c =
    let x = c.in_ok-compact.compact in
    let units = c.args.self.now in
    let number = c.args.number.now in
    let said = c.said_by in (
      x,
      c.in_ok-compact.ensures.number.0,
      same_message (λ (texts : Elements PackedValue). IsExactElement texts c.args.rules.now) said.result.0.now (unit_of units x.exponent)
          said.result.1.now (shown_of x.exponent number) x (string_bytes c.in_ok-format_number.field-0)
          (said.ensures.texts ∙ ap (λ (e : ℕ). unit_of units e) c.exponent.ensures)
          (said.ensures.shown ∙ ap (λ (e : ℕ). shown_of e number) c.exponent.ensures) c.in_ok-format_number.ensures.exact,
    )
