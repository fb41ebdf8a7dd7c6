use Rattle.po_catalog.proofs.Cuts.{next_view}
use Rattle.po_catalog.proofs.line.Lines.next_line.Goals as goal

pub returns : goal.returns
returns c = next_view c.args.self.now c.self.inside.number c.self.inside.rest c.in_ok-rest.rest c.cut_at.result (cc)
    (cc) c.cut_at.ensures.cut
