use Rattle.std.proofs.Common.{◌≡◌, None, Option, ap, length, map, sym, arith}
use Rattle.std.proofs.lemmas.List.{length-map}
use Rattle.plural_fallback.specs.LocaleNames.{folded}
use Rattle.document_members.specs.ParentRows.{parent_by}
use Rattle.document_members.specs.Inner.Rows.{Seen, row_at, row_text}
use Rattle.document_members.proofs.parent_rows.Parents.row.Goals as goal

pub returns-then-locale-self : goal.returns-then-locale-self
returns-then-locale-self c =
    let rows = c.args.self.now in
    let locale = c.args.locale.now in
    let same : length (map folded locale) ≡ length locale = length-map locale folded in
    let none : row_at rows.folded (map folded locale) ≡ None =
    rows.names (map folded locale) (omega (arith, same, c.if-locale-self.true)) in
    ap (λ (row : Option Seen). parent_by (row_text rows.absent) locale row (row_at rows.exact locale)) (sym none)
