use Rattle.std.proofs.Common.{◌≡◌, ◌++◌}
use Rattle.std.specs.Map.{keys_of}
use Rattle.plural_base.specs.DocumentJson.{rows_meant}
use Rattle.plural_base.specs.Inner.JsonSteps.{Ascend, rows_by}
use Rattle.plural_base.proofs.reading.Rows.{key_bytes}
use Rattle.plural_base.proofs.reading.RowsRead.{behind}
use Rattle.serde_json.specs.View.{members_view}
use Rattle.plural_base.proofs.json.rows.read_rows.Given as goal

-- the rows so far, followed by the rows of the remaining members; the keys of both ascend
abbrev pub invariant-loop-locale : goal.invariant-loop-locale
invariant-loop-locale g l =
    let rows = rows_by g.T.FromJson.seen l.rows in
    let meant = g.T.FromJson.meant in
    (rows_meant meant (members_view l.members.entries) ≡ behind rows (rows_meant meant (members_view l.locale-iterator)))
    × Ascend (keys_of rows ++ key_bytes l.locale-iterator)
