use Rattle.std.proofs.Common.{◌≡◌, Ok, Err, refl, rules, subst}
use Rattle.std.specs.Prelude.{map}
use Rattle.std.proofs.lemmas.List.{length-map}
use Rattle.icu_plurals.specs.CategoryTables.{integer_entry}
use Rattle.icu_plurals.specs.FiveRules.{FiveRules}
use Rattle.plural_exports.specs.Results.{filled_buffer}
use Rattle.plural_exports.proofs.integers.categories_of_integers.Goals as goal

pub returns-in-Ok : goal.returns-in-Ok
returns-in-Ok c =
    let entry = integer_entry c.in-Ok.rules in
    let numbers = c.args.numbers.now in (
      Ok (map entry numbers),
      (Ok c.in-Ok.rules, c.in-Ok.ensures, refl),
      (
        rw (length-map numbers entry) (search rules),
        subst (λ (five : FiveRules). c.put_categories.new.out ≡ filled_buffer (map (integer_entry five) numbers) c.args.out.now)
            c.of.ensures c.put_categories.ensures.written,
      ),
    )

pub returns-in-Err : goal.returns-in-Err
returns-in-Err c = (Err c.in-Err.fault, (Err c.in-Err.fault, c.in-Err.ensures, refl), search rules)
