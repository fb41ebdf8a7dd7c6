use Rattle.std.proofs.Common.{List, length, ap, sym, ◌∙◌}
use Rattle.std.proofs.lemmas.List.{length-map}
use Rattle.message_catalog.specs.CatalogMessages.{Message}
use Rattle.message_catalog.specs.Inner.MessageReading.{message_in}
use Rattle.message_catalog.proofs.catalog.MessageCatalog.len.Goals as goal

pub returns : goal.returns
returns c = c.len.ensures ∙ sym (length-map c.self.inside.catalog message_in)
    ∙ ap (λ (messages : List Message). length messages) c.self.view_is
