use Rattle.std.proofs.Common.{Ok, Err, rules}
use Rattle.plural_exports.proofs.catalogs.catalog_say.Goals as goal

pub returns-in-Ok : goal.returns-in-Ok
returns-in-Ok c = (Ok c.in-Ok.ensures.0, c.in-Ok.ensures.1, (search rules, c.in-Ok.ensures.2.1))

pub returns-in-Err : goal.returns-in-Err
returns-in-Err c = (Err c.in-Err.fault, c.in-Err.ensures.0, (search rules, c.in-Err.ensures.1))
