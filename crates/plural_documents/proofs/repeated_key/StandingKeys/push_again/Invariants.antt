use Rattle.std.proofs.Common.{map}
use Rattle.plural_documents.specs.Inner.KeysStanding.{HasAdded}
use Rattle.plural_documents.specs.RepeatedKeys.{path_view}
use Rattle.plural_documents.proofs.KeyLemmas.{shown_at}
use Rattle.plural_documents.proofs.repeated_key.StandingKeys.push_again.Given as goal

-- those so far were added
abbrev pub invariant-loop-key : goal.invariant-loop-key
invariant-loop-key l = HasAdded l.initial.found.items l.found.items (map (shown_at (path_view l.path)) l.yielded)
