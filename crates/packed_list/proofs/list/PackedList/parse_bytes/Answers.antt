use Rattle.std.proofs.Common.{arith, length, sym, ap, refl, ◌∙◌}
use Rattle.std.specs.Prelude.{Ok}
use Rattle.std.proofs.lemmas.Bool.{eqb-true}
use Rattle.packed_list.proofs.Accepted.{passed, passes_from, no_bytes}
use Rattle.packed_list.proofs.Refused.{not_short, not_bad}
use Rattle.packed_list.proofs.OneList.{items_in_one}
use Rattle.packed_list.proofs.list.PackedList.parse_bytes.Goals as goal

pub returns-then-bytes-count-clause-accepted : goal.returns-then-bytes-count-clause-accepted
returns-then-bytes-count-clause-accepted c =
    λ items h. absurd (not_short items c.args.bytes.now h.spelled (omega (arith, c.number-count.ensures.value, c.if-bytes-count.true)))

pub returns-then-not-are_starts-clause-accepted : goal.returns-then-not-are_starts-clause-accepted
returns-then-not-are_starts-clause-accepted c =
    λ items h. absurd (not_bad items c.args.bytes.now h.spelled (c.if-not-are_starts.ensures.bad refl))

pub from_checked-requires : goal.from_checked-requires
from_checked-requires c =
    let bytes = c.args.bytes.now in
    let n = c.number-count.ensures.value in
    passed bytes (λ i. omega (arith, c.type_inv.bytes i))
    (passes_from bytes (omega (arith, c.if-bytes-eq1.false)) (omega (arith, n, c.if-count-eq0.false))
    (omega (arith, n, c.if-bytes-count.false))
    (c.if-not-are_starts.ensures.good refl))

pub returns-clause-accepted : goal.returns-clause-accepted
returns-clause-accepted c = λ items h. ap Ok
    (sym (items_in_one _ c.args.bytes.now c.from_checked.ensures.spelled) ∙ items_in_one items c.args.bytes.now h.spelled)

pub invariant_of-result : goal.invariant_of-result
invariant_of-result c = no_bytes c.args.bytes.now (eqb-true (length c.args.bytes.now) 0 (sym c.is_empty.ensures ∙ c.if-is_empty.true))

pub returns-then-is_empty-clause-ok : goal.returns-then-is_empty-clause-ok
returns-then-is_empty-clause-ok c = invariant_of-result c

pub returns-then-is_empty-clause-accepted : goal.returns-then-is_empty-clause-accepted
returns-then-is_empty-clause-accepted c = λ items h. ap Ok (items_in_one items c.args.bytes.now h.spelled)
