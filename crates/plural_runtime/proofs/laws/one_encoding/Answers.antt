use Rattle.std.proofs.Common.{sym, ap, ◌∙◌}
use Rattle.plural_runtime.specs.Inner.RuleReading.{relations_in}
use Rattle.plural_runtime.specs.PackedRelations.{packed_bytes}
use Rattle.plural_runtime.proofs.bytes.RuleItems.{relations_in_one}
use Rattle.plural_runtime.proofs.laws.one_encoding.Goals as goal

pub returns : goal.returns
returns c = λ relations others a b h g. (
  (λ e. sym (relations_in_one c.read_again.ensures relations a h) ∙ ap relations_in e
      ∙ relations_in_one c.read_again.ensures others b g),
  (λ e. h.packed.spelled ∙ ap packed_bytes e ∙ sym g.packed.spelled),
)
