use Rattle.std.proofs.Common.{Err, refl}
use Rattle.icu_plurals.specs.RuleTexts.{lent_texts}
use Rattle.plural_documents.specs.Steps.{Then}
use Rattle.plural_exports.specs.GivenTexts.{GiveRules, PackRules, ReadsTexts}
use Rattle.plural_exports.specs.Inner.GivenResults.{lent_five}
use Rattle.plural_exports.proofs.Steps.{of_second}
use Rattle.plural_exports.proofs.rules.rules_of_texts.Goals as goal

pub returns-in-Ok : goal.returns-in-Ok
returns-in-Ok c =
    of_second (λ block. block.items) (ReadsTexts (lent_five c.args.texts.now)) (λ given. Then (GiveRules given) PackRules)
    (lent_texts c.in-Ok.given) c.packed_texts.result c.in-Ok.ensures c.packed_texts.ensures

pub returns-in-Err : goal.returns-in-Err
returns-in-Err c = (Err c.in-Err.fault, c.in-Err.ensures, refl)
