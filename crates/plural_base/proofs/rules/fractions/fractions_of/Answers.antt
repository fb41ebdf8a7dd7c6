use Rattle.std.proofs.Common.{◌≡◌, ap, arith}
use Rattle.plural_operands.specs.declared.raw_operands.RawPluralOperands.{RawPluralOperands}
use Rattle.plural_base.proofs.integers.Fractions.{is_shown, is_not_zero}
use Rattle.plural_base.proofs.rules.fractions.fractions_of.Goals as goal

pub returns-then-raw-eq0-clause-exact : goal.returns-then-raw-eq0-clause-exact
returns-then-raw-eq0-clause-exact c =
    let v : c.from-raw.result.v ≡ c.args.operands.v = ap (λ (r : RawPluralOperands). r.v) c.from-raw.ensures in
    omega arith

pub returns-then-raw-eq0-2 : goal.returns-then-raw-eq0-2
returns-then-raw-eq0-2 c =
    let v : c.from-raw.result.v ≡ c.args.operands.v = ap (λ (r : RawPluralOperands). r.v) c.from-raw.ensures in
    let w : c.from-raw.result.w ≡ c.args.operands.w = ap (λ (r : RawPluralOperands). r.w) c.from-raw.ensures in
    record { of = is_shown c.args.operands (omega arith); exact = (omega arith, omega arith) }

pub returns : goal.returns
returns c =
    let v : c.from-raw.result.v ≡ c.args.operands.v = ap (λ (r : RawPluralOperands). r.v) c.from-raw.ensures in
    let w : c.from-raw.result.w ≡ c.args.operands.w = ap (λ (r : RawPluralOperands). r.w) c.from-raw.ensures in
    record { of = is_not_zero c.args.operands (omega arith) (omega arith); exact = (omega arith, omega arith) }
