use Rattle.std.proofs.Common.{◌∙◌, ap, sym}
use Rattle.packed_list.specs.ListBytes.{list_bytes}
use Rattle.plural_base.specs.RulesBytes.{rule_items}
use Rattle.plural_base.proofs.encoding.OneRulesEncoding.{same_items}
use Rattle.plural_base.proofs.laws.rules_have_one_encoding.Goals as goal

pub returns : goal.returns
returns c = λ rules others a b h g. (
  (λ e. same_items c.one_encoding-2.ensures rules others h.can_pack g.can_pack
      ((c.one_encoding.ensures (rule_items rules) (rule_items others) a b h.packed g.packed).0 e)),
  (λ e. h.packed.spelled ∙ ap (λ all. list_bytes (rule_items all)) e ∙ sym g.packed.spelled),
)
