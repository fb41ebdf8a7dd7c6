use Rattle.plural_base.proofs.encoding.RawCategories.{same_byte}
use Rattle.plural_base.proofs.laws.range_bytes_differ.Goals as goal

pub returns : goal.returns
returns c = same_byte
