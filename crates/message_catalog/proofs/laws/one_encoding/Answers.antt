use Rattle.std.proofs.Common.{List, ap, subst, sym, ◌∙◌}
use Rattle.message_catalog.specs.CatalogMessages.{HoldMessages, Message}
use Rattle.message_catalog.specs.Inner.MessageReading.{messages_in}
use Rattle.message_catalog.proofs.HeldMessages.{messages_again, same_entries}
use Rattle.message_catalog.proofs.laws.one_encoding.Goals as goal

pub returns : goal.returns
returns c = λ messages others a b h g.
    let catalogs = c.one_encoding.ensures h.entries g.entries a b h.packed g.packed in (
      (λ e. sym (messages_again c.read_again.ensures h.entries messages h.held) ∙ ap messages_in (catalogs.0 e)
          ∙ messages_again c.read_again.ensures g.entries others g.held),
      (λ e. catalogs.1 (same_entries c.one_encoding-2.ensures others h.entries g.entries
          (subst (λ (ms : List Message). HoldMessages h.entries ms) e h.held) g.held)),
    )
