use Rattle.std.proofs.Common.{List, ap, sym, ◌∙◌}
use Rattle.std.specs.Prelude.{option_map, slice_get}
use Rattle.message_catalog.specs.CatalogMessages.{Message}
use Rattle.message_catalog.proofs.HeldMessages.{key_again}
use Rattle.message_catalog.proofs.catalog.MessageCatalog.key.Goals as goal

pub returns : goal.returns
returns c = c.key.ensures ∙ sym (key_again c.self.inside.catalog c.args.index)
    ∙ ap (λ (messages : List Message). option_map (λ (message : Message). message.key) (slice_get messages c.args.index)) c.self.view_is
