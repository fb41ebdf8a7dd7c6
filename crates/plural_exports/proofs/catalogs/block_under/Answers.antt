use Rattle.std.proofs.Common.{sym}
use Rattle.plural_exports.proofs.catalogs.block_under.Goals as goal

pub returns-in-Some : goal.returns-in-Some
returns-in-Some c = (c.in-Some.ensures.stands, λ entries is. sym (c.in-Some.ensures.found entries is))
