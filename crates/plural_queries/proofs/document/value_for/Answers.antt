use Rattle.plural_queries.specs.QueryViews.{lookup_view}
use Rattle.plural_queries.proofs.KeptDocuments.{elements_kept, wanted}
use Rattle.plural_queries.proofs.document.value_for.Goals as goal
use Rattle.serde_json.specs.View.{view}

pub returns-in-Ok : goal.returns-in-Ok
returns-in-Ok c held is_held =
    wanted (lookup_view c.args.lookup.now) (view c.in-Ok.value) held
    (elements_kept _ c.args.text.now (view c.in-Ok.value) c.in-Ok.ensures held is_held)
