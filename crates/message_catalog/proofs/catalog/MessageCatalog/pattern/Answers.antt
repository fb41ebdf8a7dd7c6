use Rattle.std.proofs.Common.{List, ap, sym, ◌∙◌, Some}
use Rattle.std.specs.Prelude.{option_map}
use Rattle.packed_pattern.specs.Inner.PartReading.{parts_in}
use Rattle.message_catalog.specs.CatalogMessages.{Message, parts_under}
use Rattle.message_catalog.proofs.HeldMessages.{parts_under-messages_in, value_under_is}
use Rattle.message_catalog.proofs.catalog.MessageCatalog.pattern.Goals as goal

pub from_checked-requires : goal.from_checked-requires
from_checked-requires c =
    value_under_is c.args.key.now c.self.inside.catalog c.in-Some.value.now c.self.invariant (sym c.in-Some.ensures)

pub returns-in-Some : goal.returns-in-Some
returns-in-Some c =
    ap Some (sym (c.read_again.ensures c.from_checked.result c.in-Some.value.now c.from_checked.ensures))
    ∙ ap (option_map parts_in) c.in-Some.ensures
    ∙ sym (parts_under-messages_in c.args.key.now c.self.inside.catalog)
    ∙ ap (λ (messages : List Message). parts_under c.args.key.now messages) c.self.view_is

pub returns-in-None : goal.returns-in-None
returns-in-None c =
    ap (option_map parts_in) c.in-None.ensures
    ∙ sym (parts_under-messages_in c.args.key.now c.self.inside.catalog)
    ∙ ap (λ (messages : List Message). parts_under c.args.key.now messages) c.self.view_is
