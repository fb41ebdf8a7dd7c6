use Rattle.std.proofs.Common.{◌≡◌, ℕ, ◌<◌, get_or, length}
use Rattle.plural_base.specs.Inner.RulesSteps.{IsTableByte}
use Rattle.plural_base.proofs.rules.table_bytes.table_bytes.Given as goal

abbrev pub invariant-loop-place : goal.invariant-loop-place
invariant-loop-place l =
    (length l.bytes ≡ 236) × ((k : ℕ) → k < l.place → IsTableByte l.bound l.low l.cycle k (get_or l.bytes k 0))
