use Rattle.std.proofs.Common.{refl, subst}
use Rattle.std.proofs.lemmas.Result.{err_from_is_err_and}
use Rattle.serde_json.specs.View.{members_view}
use Rattle.plural_base.specs.DocumentJson.{Rows, rows_meant}
use Rattle.plural_base.specs.Inner.JsonSteps.{row_alone, rows_by}
use Rattle.plural_base.specs.Json.{GivesMeaning, Stands}
use Rattle.plural_base.proofs.reading.Checked.{row_found}
use Rattle.plural_base.proofs.reading.DocumentRefusals.{refused_with}
use Rattle.plural_base.proofs.json.locale.read_alone.Goals as goal

pub returns-in_err-check_rows-clause-answers : goal.returns-in_err-check_rows-clause-answers
returns-in_err-check_rows-clause-answers g c =
    let p = err_from_is_err_and c.from_residual.result c.from_residual.ensures.1 in
    let rows = rows_meant g.T.FromJson.meant (members_view c.args.members.now.entries) in
    rw (p.1, p.2)
    (refused_with c.in_err-check_rows.field-0.0 rows (row_alone c.args.locale.now rows) (λ refused. rw refused refl)
    c.in_err-check_rows.ensures.answers)

pub returns-clause-answers : goal.returns-clause-answers
returns-clause-answers g c =
    subst (λ (s : Stands (Rows g.T.FromJson.Seen)). GivesMeaning (λ rows. rows_by g.T.FromJson.seen rows) c.keep_row.result s)
    (row_found g.T.FromJson.meant c.args.locale.now (members_view c.args.members.now.entries) c.in_ok-check_rows.ensures.answers)
    c.keep_row.ensures.answers
