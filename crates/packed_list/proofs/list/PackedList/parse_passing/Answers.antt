use Rattle.std.proofs.Common.{◌∙◌, arith, length, refl, sym}
use Rattle.std.proofs.lemmas.Bool.{eqb-true}
use Rattle.packed_list.proofs.Accepted.{no_bytes}
use Rattle.packed_list.proofs.Refused.{not_short, not_zero}
use Rattle.packed_list.proofs.list.PackedList.parse_passing.Goals as goal
use Rattle.packed_list.proofs.list.PackedList.parse_passing.Goals.{then-count-eq0-via-then-count-eq0}
use Rattle.packed_list.proofs.list.PackedList.parse_passing.Goals.{then-count-eq0-via-else-count-eq0+then-bytes-count}
use Rattle.packed_list.proofs.list.PackedList.parse_passing.Goals.{then-count-eq0-via-else-count-eq0+else-bytes-count+then-not-are_passing}

pub from_checked-requires : goal.from_checked-requires
from_checked-requires g c = no_bytes c.args.bytes.now (eqb-true (length c.args.bytes.now) 0 (sym c.is_empty.ensures ∙ c.if-is_empty.true))

pub returns-then-count-eq0-clause-none : goal.returns-then-count-eq0-clause-none
returns-then-count-eq0-clause-none g c = λ items h.
    let bytes = c.args.bytes.now in
    let is = c.number-count.ensures.value in
    elim c.then-count-eq0.branch [
      | then-count-eq0-via-then-count-eq0 w ↦ absurd
          (not_zero items bytes h.spelled (omega (arith, c.if-bytes-lt2.false)) (omega (arith, is, w.if-count-eq0.true)))
      | then-count-eq0-via-else-count-eq0+then-bytes-count w ↦ absurd
          (not_short items bytes h.spelled (omega (arith, is, w.if-bytes-count.true)))
      | then-count-eq0-via-else-count-eq0+else-bytes-count+then-not-are_passing w ↦ w.if-not-are_passing.ensures.fail refl items h
    ]
