use Rattle.std.proofs.Common.{◌≡◌, ◌∷◌, [], ◌++◌, string_bytes, ap, subst, ◌∙◌}
use Rattle.std.specs.Map.{keys_of}
use Rattle.plural_base.specs.DocumentJson.{rows_meant}
use Rattle.plural_base.specs.Inner.JsonSteps.{Ascend, rows_by}
use Rattle.serde_json.specs.View.{view, members_view}
use Rattle.plural_base.proofs.reading.Rows.{key_bytes, ascend_bytes, ascend_so_far}
use Rattle.plural_base.proofs.reading.RowsRead.{behind, behind_none, rows_kept, order_kept}
use Rattle.plural_base.proofs.json.rows.read_rows.Goals as goal
use Rattle.plural_base.proofs.json.rows.read_rows.Goals.{After-into_iter-locale-iterator, In_ok-put_row}

-- all members remain at first
all_left : (g : _) (c : After-into_iter-locale-iterator g) → c.into_iter-locale-iterator.result ≡ c.args.members.now.entries
all_left g c = c.into_iter-locale-iterator.ensures.into_iter_gives ∙ c.iter-locale-items.ensures.rest

pub loop-locale-init : goal.loop-locale-init
loop-locale-init g c =
    let left = all_left g c in (
      rw (c.in_ok-rows.ensures, left) (behind_none _),
      rw (c.in_ok-rows.ensures, left) (ascend_bytes c.args.members.now.entries c.iter-locale-items.ensures.ordered),
    )

pub put_row-requires : goal.put_row-requires
put_row-requires g c =
    let keys = keys_of (rows_by g.T.FromJson.seen c.loop-locale.rows) in
    let key = string_bytes c.in-Some.locale.now in
    rw c.as_str.ensures.value
    (ascend_so_far keys key (key_bytes c.next.new.self)
    (subst (λ left. Ascend (keys ++ key_bytes left)) c.in-Some.ensures.steps c.loop-locale.invariant.1))

-- the member's row is put behind the others
is_put : (g : _) (c : In_ok-put_row g) → rows_by g.T.FromJson.seen c.put_row.new.rows
    ≡ rows_by g.T.FromJson.seen c.loop-locale.rows ++ (string_bytes c.in-Some.locale.now, c.in_ok-put_row.ensures.answers.0) ∷ []
is_put g c =
    let seen = g.T.FromJson.seen in
    subst (λ k. rows_by seen c.put_row.new.rows ≡ rows_by seen c.loop-locale.rows ++ (k, c.in_ok-put_row.ensures.answers.0) ∷ [])
    c.as_str.ensures.value c.in_ok-put_row.ensures.answers.2

pub loop-locale-preserved : goal.loop-locale-preserved
loop-locale-preserved g c =
    let rows = rows_by g.T.FromJson.seen c.loop-locale.rows in
    let new = rows_by g.T.FromJson.seen c.put_row.new.rows in
    let key = string_bytes c.in-Some.locale.now in
    let row = c.in_ok-put_row.ensures.answers.0 in
    let keys = key_bytes c.next.new.self in
    let meant = g.T.FromJson.meant in (
      c.loop-locale.invariant.0
          ∙ ap (λ left. behind rows (rows_meant meant (members_view left))) c.in-Some.ensures.steps
          ∙ rows_kept rows new key row keys (is_put g c) meant (view c.in-Some.value.now) (members_view c.next.new.self)
          c.in_ok-put_row.ensures.answers.1,
      order_kept rows new key row keys (is_put g c)
          (subst (λ left. Ascend (keys_of rows ++ key_bytes left)) c.in-Some.ensures.steps c.loop-locale.invariant.1),
    )
