use Rattle.packed_catalog.specs.CatalogBytes.{lent_entries}
use Rattle.packed_catalog.proofs.EntriesOrder.{sorted_not_low}
use Rattle.packed_catalog.proofs.PackErrors.{bytes_arent_order, memory_isnt_order, order_isnt_too_long, too_long_isnt_order}
use Rattle.packed_catalog.proofs.packing.pack.Goals as goal

pub returns-in-Some-clause-too_long : goal.returns-in-Some-clause-too_long
returns-in-Some-clause-too_long c = (
  (λ e. absurd (order_isnt_too_long c.in-Some.index e)),
  (λ h. absurd (sorted_not_low (lent_entries c.args.entries.now) h.1 c.in-Some.index c.in-Some.ensures.some)),
)

pub returns-in_default-data_length-clause-order : goal.returns-in_default-data_length-clause-order
returns-in_default-data_length-clause-order c = λ index. (
  (λ e. absurd (too_long_isnt_order index e)),
  (λ h. absurd (sorted_not_low (lent_entries c.args.entries.now) c.in_default.ensures.none index h.1)),
)

pub returns-in-Ok-clause-order : goal.returns-in-Ok-clause-order
returns-in-Ok-clause-order c = λ index. (
  (λ e. absurd (bytes_arent_order c.in-Ok.bytes index e)),
  (λ h. absurd (sorted_not_low (lent_entries c.args.entries.now) c.in_default.ensures.none index h.1)),
)

pub returns-in-Err-clause-order : goal.returns-in-Err-clause-order
returns-in-Err-clause-order c = λ index. (
  (λ e. absurd (memory_isnt_order index e)),
  (λ h. absurd (sorted_not_low (lent_entries c.args.entries.now) c.in_default.ensures.none index h.1)),
)
