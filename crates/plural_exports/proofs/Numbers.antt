-- Texts that are refused as numbers.
use Rattle.std.proofs.Common.{◌≡◌, ◌≢◌, ◌≤◌, ◌↔◌, List, length, ℕ, Result, Err, refl}
use Rattle.std.proofs.Math.Nat.{lt_of_not-le}
use Rattle.icu_plurals.specs.declared.DecimalError.{DecimalError}
use Rattle.icu_plurals.specs.declared.DecimalError.TheVariants as decimal
use Rattle.icu_plurals.specs.Written.{CompactNumber, WritesCompact, IsCompactOverLimit}
use Rattle.plural_exports.specs.GivenBytes.{WritesNumber}
use Rattle.plural_exports.specs.Inner.Conversions.{decimal_fault}
use Rattle.plural_exports.specs.declared.fault.Fault.{Fault}

-- the fault of a text that is refused as a number
pub number_refused : (text : List ℕ) (e : DecimalError) (r : Result CompactNumber Fault) → r ≡ Err (decimal_fault e)
    → ◌≡◌ {A = Result CompactNumber DecimalError} (Err e) (Err decimal.Syntax) ↔ ((x : CompactNumber) → ¬ (WritesCompact text x))
    → ◌≡◌ {A = Result CompactNumber DecimalError} (Err e) (Err decimal.Limit)
    ↔ ((x : CompactNumber) × WritesCompact text x × IsCompactOverLimit x)
    → (length text ≤ 16 → ◌≢◌ {A = Result CompactNumber DecimalError} (Err e) (Err decimal.Memory))
    → WritesNumber text r
number_refused text decimal.Syntax r is syntax limit short = rw is (syntax.0 refl)
number_refused text decimal.Limit r is syntax limit short = rw is (limit.0 refl)
number_refused text decimal.Memory r is syntax limit short =
    rw is (
      λ none. (let same : ◌≡◌ {A = Result CompactNumber DecimalError} (Err decimal.Memory) (Err decimal.Syntax) =
          syntax.1 none in absurd cc),
      λ over. (let same : ◌≡◌ {A = Result CompactNumber DecimalError} (Err decimal.Memory) (Err decimal.Limit) = limit.1 over in absurd cc),
      lt_of_not-le (λ few. short few refl),
    )
