use Rattle.std.proofs.lemmas.Result.{err_from_is_err_and}
use Rattle.icu_plurals.specs.DocumentJson.{document_of_json}
use Rattle.plural_queries.specs.QueryViews.{document_view, lookup_view}
use Rattle.plural_queries.proofs.Faults.{handed_on}
use Rattle.plural_queries.proofs.KeptDocuments.{document_refused, document_there, maps_there, serves}
use Rattle.plural_queries.proofs.document.document_for.Goals as goal

pub returns-in_err-maps : goal.returns-in_err-maps
returns-in_err-maps c held is_held =
    rw (handed_on c.from_residual.result c.in_err-maps.field-0.0 (err_from_is_err_and c.from_residual.result c.from_residual.ensures.1))
    (document_refused held c.locale.result.now c.in_err-maps.field-0.0 (c.in_err-maps.ensures held is_held))

pub returns-in-Ok : goal.returns-in-Ok
returns-in-Ok c held is_held =
    let there = maps_there held c.locale.result.now (document_of_json held) _ (c.in_ok-maps.ensures held is_held) in (
      record { value = held; maps = there.0 },
      document_there held there.0 there.1,
      serves (lookup_view c.args.lookup.now) held there.0 (document_view (record { value = c.in-Ok.value; maps = c.in_ok-maps.maps }))
          (rw (← c.locale.ensures) there.2) (c.in-Ok.ensures held is_held),
    )
