use Rattle.std.proofs.Common.{Option, option_map, ap}
use Rattle.po_catalog.specs.declared.draft.Field.{Field}
use Rattle.po_catalog.specs.Drafts.{with_field}
use Rattle.po_catalog.specs.Inner.DraftViews.{draft_view, field_view}
use Rattle.po_catalog.proofs.Readings.{text_goes_on}
use Rattle.po_catalog.proofs.reader.Reader.read_text.Goals as goal

pub returns-in-Some-clause-said : goal.returns-in-Some-clause-said
unfolding with_field
returns-in-Some-clause-said c =
    text_goes_on c.args.line.now (draft_view c.args.self.now) (field_view c.in-Some.field)
    (field_view c.read_text.new.self) c.read_text.result
    (ap (λ (x : Option Field). option_map field_view x) c.in-Some.is) c.read_text.ensures.said
