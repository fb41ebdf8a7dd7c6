use Rattle.std.proofs.Common.{arith}
use Rattle.std.proofs.lemmas.Bool.{eqb-true}
use Rattle.plural_runtime.proofs.bytes.ItemBytes.{ranges_spelled}
use Rattle.plural_runtime.proofs.relation.spelled_ranges.Goals as goal

pub returns-clause-spelled : goal.returns-clause-spelled
returns-clause-spelled c = ranges_spelled c.args.ranges.now (λ i. omega (arith, c.type_inv.ranges i)) (eqb-true _ _ c.requires)
