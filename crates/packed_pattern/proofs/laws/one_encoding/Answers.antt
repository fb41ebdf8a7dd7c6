use Rattle.std.proofs.Common.{sym, ap, ◌∙◌, map}
use Rattle.packed_list.specs.ListBytes.{list_bytes}
use Rattle.packed_list.specs.Inner.ListReading.{items_in}
use Rattle.packed_part.specs.PackedParts.{part_items_of}
use Rattle.packed_part.specs.Inner.PartReading.{part_in}
use Rattle.packed_pattern.proofs.BlockItems.{parts_in_one}
use Rattle.packed_pattern.proofs.laws.one_encoding.Goals as goal

pub returns : goal.returns
returns c = λ parts others a b h g. (
  (λ e. sym (parts_in_one c.read_again.ensures parts a h) ∙ ap (λ bytes. map part_in (items_in bytes)) e
      ∙ parts_in_one c.read_again.ensures others b g),
  (λ e. h.packed.spelled ∙ ap (λ ps. list_bytes (part_items_of ps)) e ∙ sym g.packed.spelled),
)
