use Rattle.message_format.proofs.OneSaying.{one_outcome}
use Rattle.message_format.proofs.laws.one_outcome.Goals as goal

pub returns : goal.returns
returns c = λ arguments rules parts a b h k.
    one_outcome (record { unsigned = c.texts_write_one_number.ensures.unsigned; compact = c.texts_write_one_number.ensures.compact }) h k
