use Rattle.std.proofs.Common.{◌≡◌, ◌*◌, ◌^◌, ℕ, subst, arith}
use Rattle.plural_operands.specs.Operands.{HasFraction}
use Rattle.plural_operands.proofs.operands.PluralOperands.from_parts.Goals as goal

pub returns-clause-fraction : goal.returns-clause-fraction
returns-clause-fraction c =
    let same : c.args.written * 10 ^ 0 ≡ c.args.written = omega arith in
    subst (λ (n : ℕ). HasFraction c.from_scaled_parts.result c.args.shown n) same c.from_scaled_parts.ensures.fraction
