use Rattle.std.proofs.Common.{List, ℕ, refl, subst}
use Rattle.icu_plurals.specs.CategoryTables.{TableTells}
use Rattle.plural_exports.specs.TableAnswers.{IsToldOfRules}
use Rattle.plural_exports.proofs.table.told_by_table.Goals as goal

pub returns-in-Some : goal.returns-in-Some
returns-in-Some c =
    let n = c.args.number in
    let told = c.category_for_integer.result in
    let same = c.in-Some.ensures.same in (
      c.in-Some.ensures.found.0 refl,
      subst (λ (bytes : List ℕ). TableTells bytes n told) same c.category_for_integer.ensures.told,
      subst (λ (bytes : List ℕ). IsToldOfRules bytes n told) same c.category_for_integer.ensures.category,
    )

pub returns-in-None : goal.returns-in-None
returns-in-None c = (refl, λ size. (let some = c.in-None.ensures.found.1 size in cc))
