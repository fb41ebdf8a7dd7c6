use Rattle.std.proofs.Common.{◌∙◌, ap, sym, []}
use Rattle.std.specs.List.{slice_range}
use Rattle.std.specs.Prelude.{unwrap_or}
use Rattle.packed_list.proofs.CursorPlaces.{item_at_cursor}
use Rattle.packed_list.proofs.cursor.Cursor.item.Goals as goal

pub part-requires-clause-order : goal.part-requires-clause-order
part-requires-clause-order c =
    let at = c.self.invariant in
    (item_at_cursor c.self.inside.list c.self.inside.place c.self.inside.header c.self.inside.start c.end_before-end.result
    at.some at.even at.header at.within at.start c.end_before-end.ensures).below

pub part-requires-clause-within : goal.part-requires-clause-within
part-requires-clause-within c =
    let at = c.self.invariant in
    let part = item_at_cursor c.self.inside.list c.self.inside.place c.self.inside.header c.self.inside.start c.end_before-end.result
    at.some at.even at.header at.within at.start c.end_before-end.ensures in
    rw at.content part.within

pub returns : goal.returns
returns c =
    let at = c.self.invariant in
    let part = item_at_cursor c.self.inside.list c.self.inside.place c.self.inside.header c.self.inside.start c.end_before-end.result
    at.some at.even at.header at.within at.start c.end_before-end.ensures in
    c.part.ensures ∙ ap (λ bytes. slice_range bytes c.self.inside.start c.end_before-end.result) at.content
    ∙ sym (ap (λ o. unwrap_or o []) part.item)
    ∙ ap (λ at. at.item) c.self.view_is
