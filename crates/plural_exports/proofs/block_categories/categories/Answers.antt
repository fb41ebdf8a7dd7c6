use Rattle.std.proofs.Common.{Ok, Err, refl, rules}
use Rattle.icu_plurals.specs.FiveRules.{categories_of, rules_of}
use Rattle.plural_exports.proofs.block_categories.categories.Goals as goal

pub returns-in-Ok : goal.returns-in-Ok
returns-in-Ok c = (
  Ok (categories_of (rules_of c.in-Ok.rules)),
  (Ok (rules_of c.in-Ok.rules), c.in-Ok.ensures, refl),
  search rules,
)

pub returns-in-Err : goal.returns-in-Err
returns-in-Err c = (Err c.in-Err.fault, (Err c.in-Err.fault, c.in-Err.ensures, refl), search rules)
