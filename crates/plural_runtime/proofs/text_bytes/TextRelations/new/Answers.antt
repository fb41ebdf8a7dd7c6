use Rattle.plural_runtime.proofs.texts.TextItems.{holds_nothing}
use Rattle.plural_runtime.proofs.text_bytes.TextRelations.new.Goals as goal

pub returns : goal.returns
returns c = holds_nothing _ c.new.ensures.items c.new-2.ensures.items c.new-3.ensures.items
