use Rattle.std.proofs.Common.{◌∙◌, List, sym, ap}
use Rattle.message_pattern.specs.PatternParts.{Part}
use Rattle.packed_format.specs.PlacedArguments.{names_view, used_in}
use Rattle.packed_format.specs.Inner.FoundNames.{with_names}
use Rattle.packed_format.proofs.Names.{all_once}
use Rattle.packed_format.proofs.by_place.argument_names.Goals as goal

pub returns : goal.returns
returns c =
    sym (ap (λ (ps : List Part). with_names (names_view c.loop-part.names.items) (used_in ps)) c.in_default.ensures)
    ∙ (c.loop-part.invariant ∙ all_once c.args.pattern.now)
