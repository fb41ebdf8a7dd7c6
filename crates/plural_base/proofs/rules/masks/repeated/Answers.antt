use Rattle.std.proofs.Common.{◌≢◌, ◌<◌, ◌∙◌, ap, sym, refl, arith}
use Rattle.std.specs.Prelude.{◌==◌, nat_lt}
use Rattle.std.proofs.Math.Nat.{mod-eq_of_lt, mod_self}
use Rattle.plural_base.specs.Inner.Masks.{has_bit}
use Rattle.plural_base.proofs.integers.Bits.{doubled, leaves_itself, cut_low, cut_high, wider_low, wider_high}
use Rattle.plural_base.proofs.integers.Residues.{remainder-is}
use Rattle.plural_base.proofs.rules.masks.repeated.Goals as goal
use Rattle.plural_base.proofs.rules.masks.repeated.Goals.{then-modulus-eq0-via-then-modulus-eq0, then-modulus-eq0-via-else-modulus-eq0+then-modulus-ge128}

pub returns-then-modulus-eq0 : goal.returns-then-modulus-eq0
returns-then-modulus-eq0 c = λ k h.
    let m = c.args.modulus in
    let less : m ≢ 0 → k < m =
    elim c.then-modulus-eq0.branch [
      | then-modulus-eq0-via-then-modulus-eq0 w ↦ λ above. absurd (above w.if-modulus-eq0.true)
      | then-modulus-eq0-via-else-modulus-eq0+then-modulus-ge128 w ↦ λ above. omega (arith, h, w.if-modulus-ge128.true)
    ] in
    ap (has_bit c.args.mask) (sym (leaves_itself m k less))

pub loop-width-init : goal.loop-width-init
loop-width-init c =
    let m = c.args.modulus in
    let mask = c.args.mask in (
      omega (arith, c.if-modulus-eq0.false),
      mod_self m,
      λ k h below. cut_low mask c.below.result m k (c.below.ensures k h ∙ ap (nat_lt k) c.from.ensures) below
          ∙ ap (has_bit mask) (sym (mod-eq_of_lt below)),
      λ k h above. cut_high mask c.below.result m k (c.below.ensures k h ∙ ap (nat_lt k) c.from.ensures) above,
    )

pub loop-width-preserved : goal.loop-width-preserved
loop-width-preserved c =
    let m = c.args.modulus in
    let width = c.loop-width.width in
    let found = c.loop-width.found in
    let invariant = c.loop-width.invariant in (
      omega (arith, invariant.0),
      doubled width m invariant.1,
      λ k h below. wider_low c.args.mask found m width k invariant.1 invariant.2 invariant.3 h below,
      λ k h above. wider_high found width k invariant.3 h above,
    )

pub returns : goal.returns
returns c = λ k h.
    let m = c.args.modulus in
    c.loop-width.invariant.2 k h (omega (arith, h, c.loop-width-test.false))
    ∙ ap (has_bit c.args.mask) (sym (remainder-is m k (m == 0) refl c.if-modulus-eq0.false))
