use Rattle.std.proofs.Common.{List, subst}
use Rattle.message_catalog.specs.CatalogMessages.{Message, MessageBlock}
use Rattle.message_catalog.proofs.HeldMessages.{held_again}
use Rattle.message_catalog.proofs.catalog.MessageCatalog.as_bytes.Goals as goal

pub returns : goal.returns
returns c = subst (λ (messages : List Message). MessageBlock messages c.as_bytes.result.now) c.self.view_is
    (record { entries = c.self.inside.catalog; packed = c.as_bytes.ensures; held = held_again c.self.inside.catalog c.self.invariant })
