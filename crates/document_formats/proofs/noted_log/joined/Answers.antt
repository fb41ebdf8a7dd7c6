use Rattle.std.proofs.Common.{List, ap, ◌∙◌, map}
use Rattle.std.proofs.lemmas.List.{map-append}
use Rattle.serde_json.specs.Data.{Data}
use Rattle.serde_json.specs.View.{items_of, view}
use Rattle.serde_json.specs.Written.{items_have_float}
use Rattle.document_formats.proofs.NoFloats.{both_without}
use Rattle.document_formats.proofs.noted_log.joined.Goals as goal

pub returns-clause-without : goal.returns-clause-without
returns-clause-without c =
    ap (λ (values : List Data). items_have_float (items_of values))
    (ap (map view) c.in_ok-append.ensures.items ∙ map-append view c.args.first.items c.args.second.items)
    ∙ both_without (map view c.args.first.items) (map view c.args.second.items) c.requires.first c.requires.second
