use Rattle.std.proofs.Common.{◌≡◌, ◌^◌, ◌*◌, ◌%◌, ◌-◌, ◌∙◌, ap, arith, sym}
use Rattle.std.proofs.lemmas.Bool.{lt-ltb}
use Rattle.std.proofs.lemmas.Nat.{shl_whole}
use Rattle.plural_base.specs.Inner.Masks.{has_bit}
use Rattle.plural_base.proofs.integers.Bits.{has-ones}
use Rattle.plural_base.proofs.rules.masks.below.Goals as goal

pub returns-then-limit-lt128 : goal.returns-then-limit-lt128
returns-then-limit-lt128 c = λ k h.
    let limit = c.args.limit in
    let whole : 1 * 2 ^ limit % 2 ^ 128 ≡ 2 ^ limit = shl_whole 1 1 limit 128 (omega arith) (omega (arith, c.if-limit-lt128.true)) ∙ omega arith in
    ap (λ ones. has_bit (ones - 1) k) whole ∙ has-ones limit k

pub returns-else-limit-lt128 : goal.returns-else-limit-lt128
returns-else-limit-lt128 c = λ k h.
    has-ones 128 k ∙ lt-ltb k 128 h ∙ sym (lt-ltb k c.args.limit (omega (arith, c.if-limit-lt128.false)))
