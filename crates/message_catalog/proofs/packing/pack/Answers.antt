use Rattle.std.proofs.Common.{◌≡◌, List, ap, subst, sym, ◌∙◌}
use Rattle.packed_catalog.specs.CatalogBytes.{Entry, lent_entries}
use Rattle.packed_catalog.specs.declared.error.PackCatalogError.{PackCatalogError}
use Rattle.message_catalog.specs.MessagePacking.{ArePacked, HasEntriesFault, TellsFault, texts_view}
use Rattle.message_catalog.specs.declared.error.PackMessagesError.{PackMessagesError}
use Rattle.message_catalog.specs.Inner.PackedViews.{IsThis, catalog_error, packed_view}
use Rattle.message_catalog.proofs.PackingFaults.{TellsEntries, catalog_exact, catalog_told, entries_exact, entries_refused, packed_exact}
use Rattle.message_catalog.proofs.PackingFaults.{to_result}
use Rattle.message_catalog.proofs.TextsPacked.{packed_once}
use Rattle.message_catalog.proofs.packing.pack.Goals as goal

pub returns-clause-exact : goal.returns-clause-exact
returns-clause-exact c =
    let texts = texts_view c.args.messages.now in
    let entries : List Entry = lent_entries c.deref-2.result.now in
    let same : entries ≡ packed_view c.in-Ok.packed.items =
    ap lent_entries c.deref-2.ensures.value ∙ c.in_ok-entries.ensures ∙ ap packed_view c.deref.ensures.value in
    let packed : ArePacked texts entries = subst (λ (es : List Entry). ArePacked texts es) (sym same) c.in-Ok.ensures.packed in
    let told : TellsEntries c.pack.result c.deref-2.result.now = record {
      too_many = c.pack.ensures.too_many;
      order = c.pack.ensures.order;
      too_long = c.pack.ensures.too_long;
    } in
    let one = λ (others : List Entry) (h : ArePacked texts others). packed_once c.one_reading.ensures c.one_encoding.ensures texts
    others entries h packed in
    let same_error : (e : PackCatalogError) → HasEntriesFault entries e → c.in-Err-pack.error ≡ e =
    λ e f. let both = sym c.in-Err-pack.is ∙ entries_exact c.pack.result c.deref-2.result.now told e f in cc in
    λ other h. to_result c.catalog_error.result other
    (subst (λ (e : PackMessagesError). IsThis e other) (sym c.catalog_error.ensures)
    (packed_exact texts entries c.in-Ok.ensures.good one (λ (o : PackMessagesError). IsThis (catalog_error c.in-Err-pack.error) o)
    (λ e f. catalog_exact c.in-Err-pack.error e (same_error e f)) other h))

pub returns-clause-refused : goal.returns-clause-refused
returns-clause-refused c =
    let texts = texts_view c.args.messages.now in
    let entries : List Entry = lent_entries c.deref-2.result.now in
    let same : entries ≡ packed_view c.in-Ok.packed.items =
    ap lent_entries c.deref-2.ensures.value ∙ c.in_ok-entries.ensures ∙ ap packed_view c.deref.ensures.value in
    let packed : ArePacked texts entries = subst (λ (es : List Entry). ArePacked texts es) (sym same) c.in-Ok.ensures.packed in
    let told : TellsEntries c.pack.result c.deref-2.result.now = record {
      too_many = c.pack.ensures.too_many;
      order = c.pack.ensures.order;
      too_long = c.pack.ensures.too_long;
    } in
    subst (λ (e : PackMessagesError). TellsFault texts e) (sym c.catalog_error.ensures)
    (catalog_told texts entries c.in-Err-pack.error c.in-Ok.ensures.good packed
    (entries_refused c.pack.result c.deref-2.result.now told c.in-Err-pack.error c.in-Err-pack.is))

pub returns-in-Ok-pack-clause-exact : goal.returns-in-Ok-pack-clause-exact
returns-in-Ok-pack-clause-exact c =
    let texts = texts_view c.args.messages.now in
    let entries : List Entry = lent_entries c.deref-2.result.now in
    let same : entries ≡ packed_view c.in-Ok.packed.items =
    ap lent_entries c.deref-2.ensures.value ∙ c.in_ok-entries.ensures ∙ ap packed_view c.deref.ensures.value in
    let packed : ArePacked texts entries = subst (λ (es : List Entry). ArePacked texts es) (sym same) c.in-Ok.ensures.packed in
    let told : TellsEntries c.pack.result c.deref-2.result.now = record {
      too_many = c.pack.ensures.too_many;
      order = c.pack.ensures.order;
      too_long = c.pack.ensures.too_long;
    } in
    let one = λ (others : List Entry) (h : ArePacked texts others). packed_once c.one_reading.ensures c.one_encoding.ensures texts
    others entries h packed in
    λ other h. absurd (packed_exact texts entries c.in-Ok.ensures.good one (λ e. ⊥)
    (λ e f. let bad = sym c.in-Ok-pack.is ∙ entries_exact c.pack.result c.deref-2.result.now told e f in absurd cc) other h)
