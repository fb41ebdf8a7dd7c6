use Rattle.fixed_decimal.proofs.ShownTexts.{unsigned_again, decimal_again, compact_again}
use Rattle.fixed_decimal.proofs.laws.numbers_are_read_again.Goals as goal

pub returns-clause-unsigned : goal.returns-clause-unsigned
returns-clause-unsigned c = unsigned_again

pub returns-clause-signed : goal.returns-clause-signed
returns-clause-signed c = decimal_again

pub returns-clause-compact : goal.returns-clause-compact
returns-clause-compact c = compact_again
