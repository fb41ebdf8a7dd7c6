use Rattle.std.proofs.Common.{◌≡◌, ◌++◌, drop, map}
use Rattle.message_catalog.specs.MessagePacking.{texts_view}
use Rattle.catalog_commands.specs.Inner.KeyedViews.{keyed_view}
use Rattle.catalog_commands.proofs.packing.messages_of.Given as goal

-- The messages so far and the remaining texts are all texts.
abbrev pub invariant-loop-keyed : goal.invariant-loop-keyed
invariant-loop-keyed l = texts_view l.messages.items ++ map keyed_view (drop l.keyed-index l.texts) ≡ map keyed_view l.texts
