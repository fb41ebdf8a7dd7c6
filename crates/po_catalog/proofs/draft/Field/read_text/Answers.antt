use Rattle.po_catalog.proofs.Readings.{field_goes_on}
use Rattle.po_catalog.proofs.draft.Field.read_text.Goals as goal

pub returns-clause-said : goal.returns-clause-said
returns-clause-said c =
    field_goes_on c.args.line.now c.args.self.now.place c.args.self.now.text.line c.args.self.now.text.bytes.items
    c.push_text.new.text.items c.args.self.now.is_given c.push_text.result c.push_text.ensures.said
