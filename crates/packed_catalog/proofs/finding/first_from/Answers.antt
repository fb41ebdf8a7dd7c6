use Rattle.std.proofs.Common.{◌≡◌, ℕ, List, ◌+◌, ◌-◌, ◌/◌, arith, false, subst, sym, true, ◌∙◌}
use Rattle.std.specs.Cmp.Lexicographic.{slice_cmp}
use Rattle.std.specs.declared.cmp.Ordering.TheVariants.{Less}
use Rattle.std.specs.Ordering.{nat_cmp}
use mathlib.Core.Bool.{true≢false}
use Rattle.packed_catalog.specs.CatalogFaults.{key_in}
use Rattle.packed_catalog.specs.Inner.CatalogReading.{IsBlock, SharesFront}
use Rattle.packed_catalog.proofs.KeysFound.{above_on, below_on, shares_inside}
use Rattle.packed_catalog.proofs.SharedFronts.{smaller}
use Rattle.packed_catalog.proofs.finding.first_from.Goals as goal

pub loop-low-preserved-then-is_below : goal.loop-low-preserved-then-is_below
loop-low-preserved-then-is_below c =
    let at = c.loop-low.invariant in
    let bytes = c.args.bytes.now in
    let key = c.args.key.now in
    let m : ℕ = c.loop-low.low + (c.loop-low.high - c.loop-low.low) / 2 in
    let least = smaller c.loop-low.low_shared c.loop-low.high_shared in
    let shared : IsBlock bytes → SharesFront c.min.result (key_in bytes m) key = λ block.
    shares_inside bytes key block c.loop-low.low c.loop-low.high m c.loop-low.low_shared c.loop-low.high_shared c.min.result
    (omega (arith, c.min.ensures, least.0)) (omega (arith, c.min.ensures, least.1)) (omega arith) (omega (arith, c.loop-low-test.true))
    (omega (arith, at.within, c.requires.count)) at.low_none (λ e. at.high_none (e ∙ sym c.requires.count))
    (at.low_front block) (at.high_front block) in
    let same : (block : IsBlock bytes) → c.any_piece-other.result.now ≡ key_in bytes m = λ block.
    c.any_piece-other.ensures.piece block.ends in
    let given : IsBlock bytes → SharesFront c.min.result c.any_piece-other.result.now key = λ block.
    subst (λ (other : List ℕ). SharesFront c.min.result other key) (sym (same block)) (shared block) in
    let less : IsBlock bytes → slice_cmp nat_cmp (key_in bytes m) key ≡ Less = λ block.
    subst (λ (other : List ℕ). slice_cmp nat_cmp other key ≡ Less) (same block)
    ((c.compared-shared.ensures.below (given block)).0 c.if-is_below.true) in
    record {
      order = omega (arith, at.order);
      within = at.within;
      low_none = λ e. absurd (omega (arith, e));
      high_none = at.high_none;
      below = λ block k l. below_on bytes key block m (omega (arith, at.within, c.requires.count)) (less block) k (omega arith);
      above = at.above;
      low_front = λ block. subst (λ j. SharesFront c.compared-shared.result.0 (key_in bytes j) key) (omega arith)
          (subst (λ (other : List ℕ). SharesFront c.compared-shared.result.0 other key) (same block)
          (c.compared-shared.ensures.shares (given block)));
      high_front = at.high_front;
    }

pub loop-low-preserved : goal.loop-low-preserved
loop-low-preserved c =
    let at = c.loop-low.invariant in
    let bytes = c.args.bytes.now in
    let key = c.args.key.now in
    let m : ℕ = c.loop-low.low + (c.loop-low.high - c.loop-low.low) / 2 in
    let least = smaller c.loop-low.low_shared c.loop-low.high_shared in
    let shared : IsBlock bytes → SharesFront c.min.result (key_in bytes m) key = λ block.
    shares_inside bytes key block c.loop-low.low c.loop-low.high m c.loop-low.low_shared c.loop-low.high_shared c.min.result
    (omega (arith, c.min.ensures, least.0)) (omega (arith, c.min.ensures, least.1)) (omega arith) (omega (arith, c.loop-low-test.true))
    (omega (arith, at.within, c.requires.count)) at.low_none (λ e. at.high_none (e ∙ sym c.requires.count))
    (at.low_front block) (at.high_front block) in
    let same : (block : IsBlock bytes) → c.any_piece-other.result.now ≡ key_in bytes m = λ block.
    c.any_piece-other.ensures.piece block.ends in
    let given : IsBlock bytes → SharesFront c.min.result c.any_piece-other.result.now key = λ block.
    subst (λ (other : List ℕ). SharesFront c.min.result other key) (sym (same block)) (shared block) in
    let high = λ (block : IsBlock bytes) (less : slice_cmp nat_cmp (key_in bytes m) key ≡ Less).
    let t = (c.compared-shared.ensures.below (given block)).1
    (subst (λ (other : List ℕ). slice_cmp nat_cmp other key ≡ Less) (sym (same block)) less) in
    let e : true ≡ false = sym t ∙ c.if-is_below.false in
    true≢false e in
    record {
      order = omega arith;
      within = omega (arith, at.within);
      low_none = at.low_none;
      high_none = λ e. absurd (omega (arith, e, at.within));
      below = at.below;
      above = λ block k l n. above_on bytes key block m (high block) k l (omega (arith, n, c.requires.count));
      low_front = at.low_front;
      high_front = λ block. subst (λ (other : List ℕ). SharesFront c.compared-shared.result.0 other key) (same block)
          (c.compared-shared.ensures.shares (given block));
    }
