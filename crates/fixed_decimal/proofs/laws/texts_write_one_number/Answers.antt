use Rattle.fixed_decimal.proofs.Texts.{one_unsigned}
use Rattle.fixed_decimal.proofs.Signs.{one_signed}
use Rattle.fixed_decimal.proofs.Exponents.{one_compact}
use Rattle.fixed_decimal.proofs.laws.texts_write_one_number.Goals as goal

pub returns-clause-unsigned : goal.returns-clause-unsigned
returns-clause-unsigned c = one_unsigned

pub returns-clause-signed : goal.returns-clause-signed
returns-clause-signed c = one_signed

pub returns-clause-compact : goal.returns-clause-compact
returns-clause-compact c = one_compact
