use Rattle.std.proofs.Common.{◌≡◌, ◌%◌, ◌∙◌, ap, sym, arith, ◌<◌, Bool, false, true}
use Rattle.std.specs.Prelude.{◌==◌, ◌&&◌, not, if◌then◌else◌}
use Rattle.std.proofs.Math.Nat.{mod-lt}
use Rattle.plural_reference.specs.Truth.{range_holds}
use Rattle.plural_base.specs.declared.rules.known.Known.TheVariants.{Leaves}
use Rattle.plural_base.specs.Inner.Masks.{has_bit}
use Rattle.plural_base.specs.Inner.WholeNumbers.{is_range_told}
use Rattle.plural_base.proofs.integers.Bits.{differs, lacks_place, same_test}
use Rattle.plural_base.proofs.integers.KnownLists.{only_outside, residue_outside}
use Rattle.plural_base.proofs.integers.Told.{told_as}
use Rattle.plural_base.proofs.rules.known.told_of_residues.Goals as goal

-- what a test tells once it is known
by_test : (t u b guess : Bool) → t ≡ u → (if t then b else guess) ≡ (if u then b else guess)
by_test t u b guess e = ap (λ x. if x then b else guess) e

pub returns-then-start-end : goal.returns-then-start-end
returns-then-start-end c = λ k value within left.
    let start = c.args.start in
    let end = c.args.end in
    let holds = range_holds value (start, end) in
    let none : ((start == end) && not (start % 100 == k)) ≡ false = ap (λ b. b && not (start % 100 == k)) (differs start end c.if-start-end.true) in
    told_as k _ _ _ _ c.untold.result (sym (by_test _ _ holds false none)) (sym (by_test _ _ holds true none)) (c.untold.ensures k)

pub returns : goal.returns
returns c = λ k value within left.
    let start = c.args.start in
    let end = c.args.end in
    let same : (start == end) ≡ true = same_test start end c.if-start-end.false in
    let told = is_range_told Leaves k (start, end) in
    let is = only_outside told (range_holds value (start, end)) (residue_outside k value (start, end) left) in
    let here : start % 100 < 128 = (let less = mod-lt start {m = 100} (omega arith) in omega (arith, less)) in
    let bit = lacks_place (start % 100) k here within in
    let mask : not (has_bit _ k) ≡ not told = ap not (bit ∙ sym (ap (λ b. b && not (start % 100 == k)) same)) in
    told_as k _ _ _ _ c.told_false.result is.0 (mask ∙ is.1) (c.told_false.ensures k)
