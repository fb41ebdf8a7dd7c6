use Rattle.po_catalog.specs.Inner.DraftViews.{draft_view}
use Rattle.po_catalog.proofs.Readings.{empty_line, comment_line, fields_line}
use Rattle.po_catalog.proofs.reader.Reader.read_line.Goals as goal

pub returns-in-Empty : goal.returns-in-Empty
returns-in-Empty c = empty_line _ _ _ _ c.in-Empty.ensures c.pass_empty.ensures

pub returns-in_ok-read_comment-in-Comment : goal.returns-in_ok-read_comment-in-Comment
returns-in_ok-read_comment-in-Comment c =
    comment_line _ _ c.in-Comment.comment.now c.in-Comment.flags.now _ (draft_view c.read_comment.new.self) _
    c.in-Comment.ensures c.in_ok-read_comment-in-Comment.ensures c.end_line.ensures

pub returns-in_ok-read_told-in-Fields : goal.returns-in_ok-read_told-in-Fields
returns-in_ok-read_told-in-Fields c =
    fields_line _ _ c.in-Fields.is_obsolete c.in-Fields.fields.now _ (draft_view c.read_told.new.self) _
    c.in-Fields.ensures c.in_ok-read_told-in-Fields.ensures c.end_line-in-Fields.ensures
