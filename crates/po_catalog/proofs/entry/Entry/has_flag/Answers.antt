use Rattle.std.proofs.Common.{◌≡◌, ◌<◌, length, refl, sym, ◌∙◌, arith}
use Rattle.std.proofs.lemmas.Bool.{eqb-true, eqb-false, both_ways, false≢true}
use Rattle.std.proofs.lemmas.Bool.Decides.{Decides-eqb}
use Rattle.std.proofs.lemmas.Slice.Eq.{slice_eq-Decides}
use Rattle.po_catalog.proofs.FlagWords.{none_left, found_here, found_later, left_later}
use Rattle.po_catalog.proofs.entry.Entry.has_flag.Goals as goal

pub returns-then-is_empty : goal.returns-then-is_empty
returns-then-is_empty c =
    let none : length c.first_flag.result.0.now ≡ 0 = eqb-true _ _ (sym c.is_empty.ensures ∙ c.if-is_empty.true) in (
      λ h. absurd (false≢true h),
      λ h. absurd (none_left c.args.self.now.flags.items c.flags.rest.now c.args.name.now _ c.flags.invariant.left
          c.first_flag.ensures.flag none h),
    )

pub returns-then-eq : goal.returns-then-eq
returns-then-eq c =
    let some : 0 < length c.first_flag.result.0.now = omega (arith, eqb-false _ _ (sym c.is_empty.ensures ∙ c.if-is_empty.false)) in
    let same = (slice_eq-Decides Decides-eqb _ _ _ c.eq.ensures).0 c.if-eq.true in
    (λ h. c.flags.invariant.found (found_here c.flags.rest.now c.args.name.now _ c.first_flag.ensures.flag some same), λ h. refl)

pub flags-preserved : goal.flags-preserved
flags-preserved c =
    let some : 0 < length c.first_flag.result.0.now = omega (arith, eqb-false _ _ (sym c.is_empty.ensures ∙ c.if-is_empty.false)) in
    let other = (slice_eq-Decides Decides-eqb _ _ _ c.eq.ensures).1 in
    record {
      found = λ h. c.flags.invariant.found
          (found_later c.flags.rest.now c.args.name.now _ _ c.first_flag.ensures.flag c.first_flag.ensures.rest some h);
      left = λ h. left_later c.flags.rest.now c.args.name.now _ _ c.first_flag.ensures.flag c.first_flag.ensures.rest some
          (λ e. both_ways _ c.if-eq.false (other e)) (c.flags.invariant.left h);
    }
