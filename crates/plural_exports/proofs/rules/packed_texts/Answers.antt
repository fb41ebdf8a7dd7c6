use Rattle.std.proofs.Common.{Err, refl}
use Rattle.icu_plurals.specs.FiveRules.{rules_of}
use Rattle.icu_plurals.specs.RuleTexts.{lent_texts}
use Rattle.plural_exports.specs.GivenTexts.{GiveRules, PackRules}
use Rattle.plural_exports.proofs.Steps.{of_second}
use Rattle.plural_exports.proofs.rules.packed_texts.Goals as goal

pub returns-in-Ok : goal.returns-in-Ok
returns-in-Ok c =
    of_second (λ block. block.items) (GiveRules (lent_texts c.args.texts.now)) PackRules (rules_of c.in-Ok.rules) c.packed.result
    c.in-Ok.ensures c.packed.ensures

pub returns-in-Err : goal.returns-in-Err
returns-in-Err c = (Err c.in-Err.fault, c.in-Err.ensures, refl)
