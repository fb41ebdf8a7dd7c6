use Rattle.translation_files.proofs.PlaceLemmas.{no_lines}
use Rattle.translation_files.proofs.places.LocalePlaces.new.Goals as goal

pub returns : goal.returns
returns c =
    no_lines (record { cardinal = c.new.result; ordinal = c.new-2.result; patterns = c.new-3.result })
    c.new.ensures.empty c.new-2.ensures.empty c.new-3.ensures.empty
