use Rattle.std.proofs.Common.{◌≡◌, ◌<◌, ◌^◌, ◌%◌, ℕ, subst, sym, lit<}
use Rattle.std.proofs.Math.Nat.{mod-lt, one-le-pow}
use Rattle.plural_operands.specs.Operands.{Operands}
use Rattle.rule_notes.proofs.Decimals.{decimal_of}
use Rattle.rule_notes.specs.LookedAtNumbers.{HasDecimal}
use Rattle.rule_notes.proofs.own_numbers.operands_of.Goals as goal

above : (places unit : ℕ) → unit ≡ 10 ^ places → 0 < unit
above places unit is = subst (λ (u : ℕ). 0 < u) (sym is) (one-le-pow places 10 (lit< tt))

pub nonzero_rem-written : goal.nonzero_rem-written
nonzero_rem-written c = above c.args.places c.args.unit c.requires.unit

pub without_zeros-w-requires-clause-written : goal.without_zeros-w-requires-clause-written
without_zeros-w-requires-clause-written c =
    subst (λ (u : ℕ). c.args.parts % c.args.unit < u) c.requires.unit
    (mod-lt c.args.parts (above c.args.places c.args.unit c.requires.unit))

pub nonzero_div-parts : goal.nonzero_div-parts
nonzero_div-parts c = above c.args.places c.args.unit c.requires.unit

pub returns : goal.returns
returns c =
    let made = decimal_of c.args.places c.args.unit c.args.parts c.without_zeros-w.result.0 c.without_zeros-w.result.1 c.requires.unit c.without_zeros-w.ensures in
    let is = c.from.ensures in
    subst (λ (o : Operands). HasDecimal c.args.places c.args.parts o) (sym is) made
