use Rattle.std.proofs.Common.{◌≡◌, ℕ, ◌+◌, ◌<◌, ◌∙◌, Bool, arith, length, length-set, refl, set, subst, sym}
use Rattle.plural_base.specs.CategoryTables.{TableTells}
use Rattle.number_categories.specs.Inner.ToldRemainders.{AreMarked}
use Rattle.number_categories.proofs.ToldLists.{marked_more, none_marked}
use Rattle.number_categories.proofs.number_walk.told_numbers.Goals as goal

pub loop-place-init : goal.loop-place-init
loop-place-init c = (refl, none_marked c.args.table.now)

pub loop-place-preserved : goal.loop-place-preserved
loop-place-preserved c =
    let told = c.loop-place.told in
    let place = c.loop-place.place in
    let same : c.from.result ≡ 128 = cc in
    let P : ℕ → Type 0 = λ n. TableTells c.args.table.now (n + place) c.category_for_integer.result in
    let within : place < length told = omega (arith, c.loop-place.invariant.0) in (
      length-set told place c.is_some.result ∙ c.loop-place.invariant.0,
      subst (λ (b : Bool). AreMarked c.args.table.now (set told place b)) (sym c.is_some.ensures)
          (marked_more c.args.table.now told place within c.category_for_integer.result
          (subst P same c.category_for_integer.ensures.told) c.loop-place.invariant.1),
    )
