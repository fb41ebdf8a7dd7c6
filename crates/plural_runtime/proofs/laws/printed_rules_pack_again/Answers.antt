use Rattle.plural_runtime.proofs.texts.PrintedAgain.{packs_again_when_printed}
use Rattle.plural_runtime.proofs.laws.printed_rules_pack_again.Goals as goal

pub returns : goal.returns
returns c = packs_again_when_printed c.conditions_of_texts_are_spellable.ensures c.spellable_conditions_print_back.ensures
