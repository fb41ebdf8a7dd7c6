use Rattle.po_catalog.proofs.HeaderLines.{field_goes, field_here, field_later, field_nowhere}
use Rattle.po_catalog.proofs.header.field_in.Goals as goal

pub returns-in-Some : goal.returns-in-Some
returns-in-Some c = field_here c.args.name.now c.lines.rest.now c.args.header.now c.in-Some.value.now c.cut_at.result
    c.lines.invariant c.cut_at.ensures.cut c.in-Some.ensures

pub returns-in_err-rest-in-None : goal.returns-in_err-rest-in-None
returns-in_err-rest-in-None c =
    field_nowhere c.args.name.now c.args.header.now c.cut_at.result.1 c.from_residual.result c.from_residual.ensures
    c.in_err-rest-in-None.was
    (field_later c.args.name.now c.lines.rest.now c.args.header.now c.cut_at.result c.lines.invariant c.cut_at.ensures.cut
    c.in-None.ensures)

pub lines-preserved : goal.lines-preserved
lines-preserved c =
    field_goes c.args.name.now c.args.header.now c.cut_at.result.1 c.in_ok-rest-in-None.rest c.in_ok-rest-in-None.was
    (field_later c.args.name.now c.lines.rest.now c.args.header.now c.cut_at.result c.lines.invariant c.cut_at.ensures.cut
    c.in-None.ensures)
