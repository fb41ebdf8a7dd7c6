use Rattle.std.proofs.Common.{◌≡◌, ℕ, List, None, Some, bytes_eq, false, if◌then◌else◌, is_some, map, ap, sym, ◌∙◌}
use Rattle.std.specs.BTreeMap.{get_by}
use Rattle.std.specs.Option.{option_or}
use Rattle.plural_fallback.specs.LocaleNames.{folded}
use Rattle.document_members.specs.Inner.Rows.{row_at, row_seen}
use Rattle.document_members.proofs.RowLookups.{by_items, put}
use Rattle.document_members.proofs.parent_rows.put.Goals as goal

pub returns-clause-firsts : goal.returns-clause-firsts
returns-clause-firsts c =
    let rows = c.args.firsts.now in
    let named : c.in_ok-name.name.items ≡ map folded c.args.row.name.now =
    c.in_ok-name.ensures ∙ ap (map folded) c.as_bytes.ensures.value in
    let none : is_some (get_by (by_items c.in_ok-name.name.items) rows) ≡ false =
    ap (λ (name : List ℕ). is_some (get_by (by_items name) rows)) (sym c.as_slice.ensures.value) ∙ sym c.contains_key.ensures
    ∙ c.if-contains_key.false in
    λ other. put rows c.in_ok-name.name c.args.row c.insert.new.self none c.in_ok-insert.ensures.updates other
    ∙ ap (λ (name : List ℕ). option_or (row_at rows other) (if bytes_eq other name then Some (row_seen c.args.row) else None)) named
