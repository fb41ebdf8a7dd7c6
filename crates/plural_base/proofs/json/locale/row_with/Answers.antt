use Rattle.std.proofs.Common.{Some, refl}
use Rattle.serde_json.specs.View.{view}
use Rattle.plural_base.specs.Inner.JsonSteps.{row_meant}
use Rattle.plural_base.proofs.reading.Rows.{ascend_alone}
use Rattle.plural_base.proofs.reading.DocumentRefusals.{refused_with}
use Rattle.plural_base.proofs.json.locale.row_with.Goals as goal

pub put_row-requires : goal.put_row-requires
put_row-requires g c = rw c.in_ok-rows.ensures (ascend_alone c.args.locale.now)

pub returns-in-Ok-clause-answers : goal.returns-in-Ok-clause-answers
returns-in-Ok-clause-answers g c =
    rw (c.in-Ok.ensures.answers.1, c.in-Ok.ensures.answers.2, c.in_ok-rows.ensures) refl

pub returns-in-Err-clause-answers : goal.returns-in-Err-clause-answers
returns-in-Err-clause-answers g c =
    let meant = g.T.FromJson.meant in
    let value = view c.args.value.now in
    refused_with c.in-Err.refusal (meant value) (row_meant meant c.args.locale.now (Some value)) (λ refused. rw refused refl)
    c.in-Err.ensures.answers
