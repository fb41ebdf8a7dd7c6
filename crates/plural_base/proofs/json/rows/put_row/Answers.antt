use Rattle.std.proofs.lemmas.List.{map_push}
use Rattle.plural_base.proofs.reading.Rows.{keys_of-rows_by}
use Rattle.plural_base.proofs.json.rows.put_row.Goals as goal

pub push-requires : goal.push-requires
push-requires g c = rw (c.in_ok-from_str-in-Ok.ensures.ok, ← keys_of-rows_by g.T.FromJson.seen c.args.rows.now) c.requires

pub returns-in_ok-push-in-Ok-clause-answers : goal.returns-in_ok-push-in-Ok-clause-answers
returns-in_ok-push-in-Ok-clause-answers g c =
    let seen = g.T.FromJson.seen in (
      seen c.in-Ok.row,
      c.in-Ok.ensures.answers,
      rw (c.in_ok-push-in-Ok.ensures, c.in_ok-from_str-in-Ok.ensures.ok) (map_push (λ row. (row.0, seen row.1)) _ _),
    )
