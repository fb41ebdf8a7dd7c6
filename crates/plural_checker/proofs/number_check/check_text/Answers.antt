use Rattle.std.proofs.Common.{◌≡◌, Err, Ok, inl, inr, refl, subst, ◌∙◌}
use Rattle.plural_checker.specs.SampleNumbers.{GivesSampleNumber}
use Rattle.plural_checker.proofs.number_check.check_text.Goals as goal

pub returns-in-Ok-Ok : goal.returns-in-Ok-Ok
returns-in-Ok-Ok c =
    let same : c.as_str.result.now ≡ c.args.text.now = c.as_str.ensures.value ∙ c.text.view_is in
    inl (
      c.in-Ok-Ok.number,
      subst (λ text. GivesSampleNumber text (Ok c.in-Ok-Ok.number)) same (rw c.in-Ok-Ok.field-0-is at c.in-Ok-Ok.ensures),
      c.check_number.ensures,
    )

pub returns-in-Ok-Err : goal.returns-in-Ok-Err
returns-in-Ok-Err c =
    let same : c.as_str.result.now ≡ c.args.text.now = c.as_str.ensures.value ∙ c.text.view_is in
    inr (
      c.in-Ok-Err.error,
      subst (λ text. GivesSampleNumber text (Err c.in-Ok-Err.error)) same (rw c.in-Ok-Err.field-0-is at c.in-Ok-Err.ensures),
      refl,
    )
