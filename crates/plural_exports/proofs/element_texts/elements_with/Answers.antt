use Rattle.std.proofs.Common.{refl}
use Rattle.plural_exports.proofs.element_texts.elements_with.Goals as goal

pub returns : goal.returns
returns c =
    rw (
      c.with_explicit_one_value.ensures,
      c.with_explicit_zero_value.ensures,
      c.with_many_value.ensures,
      c.with_few_value.ensures,
      c.with_two_value.ensures,
      c.with_one_value.ensures,
      c.with_zero_value.ensures,
      c.new.ensures,
    ) refl
