use Rattle.std.proofs.Common.{codes, Ok, Err, ap, refl, sym, ◌∙◌}
use Rattle.std.proofs.lemmas.Result.{err_from_is_err_and}
use Rattle.serde_json.specs.Find.{get}
use Rattle.plural_queries.specs.Input.{elements_at_key, or_bad, rules_for, ruled_with}
use Rattle.plural_queries.specs.QueryViews.{document_view, elements_view}
use Rattle.plural_queries.proofs.Faults.{after, handed_on, of_second, refused_first}
use Rattle.plural_queries.proofs.elements.elements_for.Goals as goal

pub returns-in_err-elements : goal.returns-in_err-elements
returns-in_err-elements c =
    let document = document_view c.args.document.now in
    refused_first elements_view (or_bad (elements_at_key (get (codes "elements") document.value)))
    (ruled_with c.args.rule_type c.args.locale.now document)
    c.in_err-elements.field-0.0 c.from_residual.result
    (handed_on _ _ (err_from_is_err_and c.from_residual.result c.from_residual.ensures.1)) c.in_err-elements.ensures

pub returns-in-Err : goal.returns-in-Err
returns-in-Err c =
    let document = document_view c.args.document.now in
    let elements = c.in_ok-elements.elements in
    of_second elements_view (or_bad (elements_at_key (get (codes "elements") document.value))) elements
    (ruled_with c.args.rule_type c.args.locale.now document) (Err c.in-Err.fault) c.in_ok-elements.ensures
    (refused_first elements_view (rules_for c.args.rule_type c.args.locale.now document)
    (λ rules. Ok (record { elements = elements; rules = rules })) c.in-Err.fault (Err c.in-Err.fault) refl c.in-Err.ensures)

pub returns-in-Ok : goal.returns-in-Ok
returns-in-Ok c =
    let document = document_view c.args.document.now in
    after (or_bad (elements_at_key (get (codes "elements") document.value))) c.in_ok-elements.elements
    (ruled_with c.args.rule_type c.args.locale.now document) _ c.in_ok-elements.ensures
    (rw (c.in-Ok.ensures ∙ ap Ok (sym c.from_data-rules.ensures)) refl)
