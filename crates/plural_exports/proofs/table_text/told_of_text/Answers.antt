use Rattle.std.proofs.Common.{ℕ, Ok, Err, inl, inr, refl, subst}
use Rattle.std.proofs.lemmas.Result.{err_from_is_err_and}
use Rattle.icu_plurals.specs.CategoryTables.{TableTells}
use Rattle.plural_exports.specs.TableAnswers.{IsToldOfRules}
use Rattle.plural_exports.proofs.Steps.{passed_on}
use Rattle.plural_exports.proofs.table_text.told_of_text.Goals as goal

pub returns-in_err-text : goal.returns-in_err-text
returns-in_err-text c = (
  Err c.in_err-text.field-0.0,
  c.in_err-text.ensures,
  passed_on _ _ (err_from_is_err_and c.from_residual.result c.from_residual.ensures.1),
)

pub returns-in-Ok : goal.returns-in-Ok
returns-in-Ok c =
    let table = c.args.table.now in
    let told = c.category_for_integer.result in
    let same = c.in-Ok.ensures.value.0.1 in (
      Ok c.in_ok-text.text.now,
      c.in_ok-text.ensures,
      inl (
        c.in-Ok.ensures.value.0.0,
        subst (λ (n : ℕ). TableTells table n told) same c.category_for_integer.ensures.told,
        subst (λ (n : ℕ). IsToldOfRules table n told) same c.category_for_integer.ensures.category,
      ),
    )

pub returns-in-Err : goal.returns-in-Err
returns-in-Err c = (Ok c.in_ok-text.text.now, c.in_ok-text.ensures, inr (c.in-Err.ensures.value.0, refl))
