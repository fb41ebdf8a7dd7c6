use Rattle.plural_reference.proofs.printing.SpellableConditions.{conditions_of_texts_are_spellable}
use Rattle.plural_reference.proofs.laws.printing.conditions_of_texts_are_spellable.Goals as goal

pub returns : goal.returns
returns c = conditions_of_texts_are_spellable
