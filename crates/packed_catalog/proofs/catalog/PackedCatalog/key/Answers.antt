use Rattle.std.proofs.Common.{List, length, ap, arith, sym, ◌∙◌, Some}
use Rattle.std.specs.Prelude.{option_map, slice_get}
use Rattle.std.proofs.lemmas.Option.{slice_get_past}
use Rattle.packed_catalog.specs.CatalogBytes.{Entry}
use Rattle.packed_catalog.proofs.BlockEntries.{length-entries_in, slice_get-entries_in}
use Rattle.packed_catalog.proofs.catalog.PackedCatalog.key.Goals as goal

pub returns-then-index-number : goal.returns-then-index-number
returns-then-index-number c =
    let entries : List Entry = c.args.self.now in
    let n = sym (length-entries_in c.self.inside.bytes.now) ∙ ap (λ (es : List Entry). length es) c.self.view_is in
    sym (ap (option_map (λ (entry : Entry). entry.key)) (slice_get_past entries c.args.index (omega (arith, n, c.number.ensures.value))))

pub returns : goal.returns
returns c =
    let bytes = c.self.inside.bytes.now in
    let k = c.args.index in
    let there = slice_get-entries_in bytes k (omega (arith, c.number.ensures.value)) in
    let entry = sym there ∙ ap (λ (es : List Entry). slice_get es k) c.self.view_is in
    ap Some c.piece.ensures ∙ ap (option_map (λ (entry : Entry). entry.key)) entry
