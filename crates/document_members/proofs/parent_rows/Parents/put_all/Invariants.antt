use Rattle.std.proofs.Common.{ℕ, List}
use Rattle.serde_json.specs.View.{members_view}
use Rattle.document_members.specs.Inner.Rows.{AreUpTo, row_at}
use Rattle.document_members.proofs.RowLookups.{Rows}
use Rattle.document_members.proofs.parent_rows.Parents.put_all.Given as goal

-- the rows so far and the remaining members say the same as all members, and no longer name has a row
abbrev pub invariant-loop-key : goal.invariant-loop-key
invariant-loop-key l =
    ((locale : List ℕ) → Rows (row_at l.firsts) (row_at l.others) (members_view l.key-iterator) (members_view l.members.entries) locale)
    × AreUpTo l.longest (row_at l.firsts)
