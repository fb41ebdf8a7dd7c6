use Rattle.std.proofs.Common.{refl, sym, ◌∙◌}
use Rattle.plural_documents.proofs.RangeNames.{key_there}
use Rattle.plural_documents.proofs.rules_place.category_place.Goals as goal

pub returns-then-is_some : goal.returns-then-is_some
returns-then-is_some c =
    rw (sym (key_there c.args.key.now c.from_text.result c.from_text.ensures) ∙ sym c.is_some.ensures ∙ c.if-is_some.true) refl

pub returns-else-is_some : goal.returns-else-is_some
returns-else-is_some c =
    rw (sym (key_there c.args.key.now c.from_text.result c.from_text.ensures) ∙ sym c.is_some.ensures ∙ c.if-is_some.false) refl
