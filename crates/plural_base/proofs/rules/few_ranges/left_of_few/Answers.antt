use Rattle.std.proofs.Common.{◌≡◌, ℕ, ◌+◌, arith, refl, subst}
use Rattle.plural_base.specs.FiveRules.{rules_of}
use Rattle.plural_base.specs.Inner.WholeNumbers.{IsLeft}
use Rattle.plural_base.specs.RuleSizes.{rule_size}
use Rattle.plural_base.proofs.rules.few_ranges.left_of_few.Goals as goal

zero_added : (n : ℕ) → 0 + n ≡ n
zero_added n = omega arith

pub returns : goal.returns
returns c =
    let rules = rules_of c.args.rules.now in
    let zero = rule_size rules.zero in
    let one = rule_size rules.one in
    let two = rule_size rules.two in
    let few = rule_size rules.few in
    let first = subst (λ (size : ℕ). IsLeft size 64 c.left_after-left.result) (zero_added zero) (c.left_after-left.ensures 0 64 refl) in
    c.left_after-left-5.ensures (zero + one + two + few) 64
    (c.left_after-left-4.ensures (zero + one + two) 64
    (c.left_after-left-3.ensures (zero + one) 64
    (c.left_after-left-2.ensures zero 64 first)))
