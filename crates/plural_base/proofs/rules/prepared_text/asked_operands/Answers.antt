use Rattle.std.proofs.Common.{◌∙◌, ap}
use Rattle.plural_operands.specs.declared.raw_operands.RawPluralOperands.{RawPluralOperands}
use Rattle.plural_runtime.specs.PackedTruth.{packed_truth}
use Rattle.plural_base.specs.FiveRules.{first_category}
use Rattle.plural_base.proofs.rules.prepared_text.asked_operands.Goals as goal

pub returns : goal.returns
returns c =
    c.asked_each.ensures
    ∙ ap (λ (r : RawPluralOperands).
    first_category (packed_truth (record { i = r.i; v = r.v; w = r.w; f = r.f; t = r.t; c = r.c })) c.args.rules.now) c.from-raw.ensures
