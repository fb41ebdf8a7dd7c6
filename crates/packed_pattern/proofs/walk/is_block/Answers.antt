use Rattle.std.proofs.Common.{◌≡◌, ◌+◌, ◌-◌, ◌<◌, List, [], ℕ, arith, drop, length, subst, sym}
use Rattle.std.proofs.lemmas.List.{drop_all}
use Rattle.packed_pattern.specs.Inner.PlacesAhead.{AreWalked}
use Rattle.packed_pattern.proofs.BlockItems.{items_step}
use Rattle.packed_pattern.proofs.walk.is_block.Goals as goal

pub loop-left-init : goal.loop-left-init
loop-left-init c =
    let left = c.len-left.result in
    let none : drop left c.args.list.now ≡ [] = drop_all left c.args.list.now (omega (arith, c.len-left.ensures)) in
    record {
      walked = subst (λ (xs : List (List ℕ)). AreWalked c.at_end-walk.result left xs) (sym none) (c.at_end-walk.ensures left);
      within = omega (arith, c.len-left.ensures);
    }

pub loop-left-preserved : goal.loop-left-preserved
loop-left-preserved c =
    let items = c.args.list.now in
    let left = c.loop-left.left in
    let walk = c.loop-left.walk in
    let within : left - 1 < length items = omega (arith, c.loop-left.invariant.within, c.loop-left-test.true) in
    let again : left - 1 + 1 ≡ left = omega (arith, c.loop-left-test.true) in
    let before : AreWalked walk (left - 1 + 1) (drop (left - 1 + 1) items) =
    subst (λ (n : ℕ). AreWalked walk n (drop n items)) (sym again) c.loop-left.invariant.walked in
    let step = items_step items (left - 1) c.in-Some.item.now within c.in-Some.ensures in
    record {
      walked = subst (λ (xs : List (List ℕ)). AreWalked c.take.new.self (left - 1) xs) (sym step)
          (c.take.ensures (drop (left - 1 + 1) items) before c.if-not-take.false);
      within = omega arith;
    }
