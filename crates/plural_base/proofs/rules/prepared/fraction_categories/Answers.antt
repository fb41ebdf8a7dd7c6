use Rattle.std.proofs.Common.{refl, arith}
use Rattle.plural_base.specs.Inner.Masks.{has_bit}
use Rattle.plural_base.proofs.rules.prepared.fraction_categories.Goals as goal

pub returns : goal.returns
unfolding has_bit
returns c = record {
  shown_is = λ o f. c.tell_categories.ensures 0 o (omega arith) (omega arith)
      (record { places = f.shown; above = λ e. absurd (omega (arith, e)) });
  not_zero_is = λ o f. c.tell_categories.ensures 1 o (omega arith) (omega arith)
      (record { places = f.shown; above = λ e. f.not_zero refl });
}
