use Rattle.std.proofs.Common.{string_bytes}
use Rattle.std.proofs.lemmas.Map.Text.{btree_map_updates_text}
use Rattle.translation_files.proofs.places.insert.Goals as goal

pub returns-clause-ok : goal.returns-clause-ok
returns-clause-ok g c =
    btree_map_updates_text (string_bytes c.args.key) c.args.places.now c.insert.new.self _ c.in_ok-insert.ensures.updates
