use Rattle.std.proofs.Common.{sym}
use Rattle.po_catalog.specs.Inner.DraftViews.{draft_view}
use Rattle.po_catalog.specs.ReadCatalogs.{ends}
use Rattle.po_catalog.proofs.Readings.{keyword_fits, keyword_here, quoted_read, unknown_here}
use Rattle.po_catalog.proofs.reader.Reader.read_front.Goals as goal

pub returns-in-End-clause-read : goal.returns-in-End-clause-read
returns-in-End-clause-read c = ends (draft_view c.args.self.now) c.args.line.now (sym c.in-End.ensures.front)

pub returns-in-None-clause-read : goal.returns-in-None-clause-read
returns-in-None-clause-read c =
    keyword_fits c.args.number c.args.is_obsolete (draft_view c.args.self.now) (draft_view c.args.self.now)
    (draft_view c.read_keyword.new.self) c.args.line.now c.args.line.now c.in-Keyword.after.now c.in-Keyword.keyword _
    (λ end h. h) c.in-Keyword.ensures.front c.in_ok-read_keyword-in-Keyword.ensures c.in-None.is

pub returns-in-Some-clause-read : goal.returns-in-Some-clause-read
returns-in-Some-clause-read c =
    keyword_here c.args.number c.args.is_obsolete (draft_view c.args.self.now) (draft_view c.args.self.now)
    (draft_view c.read_keyword.new.self) c.args.line.now c.args.line.now c.in-Keyword.after.now c.in-Keyword.keyword _ c.in-Some.cause
    (λ end h. h) c.in-Keyword.ensures.front c.in_ok-read_keyword-in-Keyword.ensures c.in-Some.is

pub returns-in-Quote-clause-read : goal.returns-in-Quote-clause-read
returns-in-Quote-clause-read c =
    quoted_read c.args.number c.args.is_obsolete (draft_view c.args.self.now) (draft_view c.read_quoted.new.self) c.args.line.now
    c.in-Quote.text.now c.read_quoted.result c.in-Quote.ensures.front c.read_quoted.ensures.read

pub returns-in_ok-leave_field-in-Bad-clause-read : goal.returns-in_ok-leave_field-in-Bad-clause-read
returns-in_ok-leave_field-in-Bad-clause-read c =
    unknown_here c.args.number c.args.is_obsolete (draft_view c.args.self.now) (draft_view c.args.self.now) _ c.args.line.now
    c.args.line.now c.in-Bad.cause (λ end h. h) c.in-Bad.ensures.front c.in_ok-leave_field-in-Bad.ensures
