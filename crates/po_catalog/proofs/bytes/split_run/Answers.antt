use Rattle.std.proofs.Common.{◌-◌, length, arith, ◌∙◌}
use Rattle.po_catalog.specs.Inner.LineViews.{is_in_catalog_class}
use Rattle.po_catalog.proofs.Runs.{cut_front, cut_rest}
use Rattle.po_catalog.proofs.bytes.split_run.Goals as goal

pub returns-clause-front : goal.returns-clause-front
returns-clause-front c =
    let text = c.args.text.now in
    let rest = c.behind_run.result.now in
    c.split_at.ensures.front
    ∙ cut_front (is_in_catalog_class c.args.class) text rest (length text - length rest) c.behind_run.ensures.rest
    (omega (arith, c.behind_run.ensures.shorter))

pub returns-clause-rest : goal.returns-clause-rest
returns-clause-rest c =
    let text = c.args.text.now in
    let rest = c.behind_run.result.now in
    c.split_at.ensures.back
    ∙ cut_rest (is_in_catalog_class c.args.class) text rest (length text - length rest) c.behind_run.ensures.rest
    (omega (arith, c.behind_run.ensures.shorter))
