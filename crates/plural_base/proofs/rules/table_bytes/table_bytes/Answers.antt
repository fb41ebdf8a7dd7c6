use Rattle.std.proofs.Common.{◌≡◌, ℕ, ◌+◌, ◌-◌, ◌<◌, ◌∙◌, length, arith, length-set, get_or, subst, rules}
use Rattle.plural_base.specs.Categories.{place_of}
use Rattle.plural_base.specs.declared.category.PluralCategory.TheVariants.{Zero}
use Rattle.std.specs.Prelude.{None}
use Rattle.plural_base.specs.Inner.RulesSteps.{IsTableByte, entry_number}
use Rattle.plural_base.proofs.tables.Entries.{eight_bytes, items_more}
use Rattle.plural_base.proofs.rules.table_bytes.table_bytes.Goals as goal

pub loop-place-preserved : goal.loop-place-preserved
loop-place-preserved c =
    let bytes = c.loop-place.bytes in
    let place = c.loop-place.place in
    let within : place < length bytes = omega (arith, c.loop-place.invariant.0) in (
      length-set bytes place c.table_byte.result ∙ c.loop-place.invariant.0,
      items_more (IsTableByte c.args.bound c.args.low.now c.args.cycle.now) bytes place c.table_byte.result within
          c.loop-place.invariant.1 c.table_byte.ensures,
    )

pub returns-clause-bound : goal.returns-clause-bound
returns-clause-bound c =
    eight_bytes c.loop-place.bytes c.args.bound (search rules)
    (λ place h. (c.loop-place.invariant.1 place (omega (arith, h))).bound_is h)

pub returns-clause-low : goal.returns-clause-low
returns-clause-low c = λ n h.
    let P : ℕ → Type 0 = λ m. get_or c.loop-place.bytes (8 + n) 0 ≡ place_of (get_or c.args.low.now m Zero) in
    let same : 8 + n - 8 ≡ n = omega arith in
    subst P same ((c.loop-place.invariant.1 (8 + n) (omega (arith, h))).low_is (omega arith) (omega (arith, h)))

pub returns-clause-cycle : goal.returns-clause-cycle
returns-clause-cycle c = λ r h.
    let P : ℕ → Type 0 = λ m. get_or c.loop-place.bytes (136 + r) 0 ≡ entry_number (get_or c.args.cycle.now m None) in
    let same : 136 + r - 136 ≡ r = omega arith in
    subst P same ((c.loop-place.invariant.1 (136 + r) (omega (arith, h))).cycle_is (omega arith))
