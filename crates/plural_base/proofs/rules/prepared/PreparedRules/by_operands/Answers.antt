use Rattle.std.proofs.Common.{◌∙◌, ap, sym}
use Rattle.plural_runtime.specs.PackedTruth.{packed_truth}
use Rattle.plural_base.specs.FiveRules.{first_category}
use Rattle.plural_base.proofs.rules.prepared.PreparedRules.by_operands.Goals as goal

pub returns-in-Some : goal.returns-in-Some
returns-in-Some c =
    c.by_tables.ensures
    ∙ ap (λ o. first_category (packed_truth o) c.args.self.now) (sym c.in-Some.ensures.whole)
