use Rattle.std.proofs.Common.{◌≡◌, ℕ, List, false, is_some, ap, sym, ◌∙◌}
use Rattle.std.specs.BTreeMap.{get_by}
use Rattle.document_members.proofs.RowLookups.{by_items, put}
use Rattle.document_members.proofs.parent_rows.put_first.Goals as goal

pub returns : goal.returns
returns c =
    let rows = c.args.rows.now in
    let none : is_some (get_by (by_items c.args.name.items) rows) ≡ false =
    ap (λ (name : List ℕ). is_some (get_by (by_items name) rows)) (sym c.as_slice.ensures.value) ∙ sym c.contains_key.ensures
    ∙ c.if-contains_key.false in
    λ other. put rows c.args.name c.args.row c.insert.new.self none c.in_ok-insert.ensures.updates other
