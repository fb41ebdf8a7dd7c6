use Rattle.std.proofs.Common.{arith, ◌∙◌}
use Rattle.plural_documents.proofs.PrintedChars.{as_it_is}
use Rattle.plural_documents.proofs.printed_key.PrintedKeyDisplay.fmt.Goals as goal

pub returns-in-Some-eq0-clause-writes : goal.returns-in-Some-eq0-clause-writes
returns-in-Some-eq0-clause-writes g c =
    let same = as_it_is c.args.self.now.key.now (omega (arith, c.in-Some-eq0.ensures.1, c.in-Some-eq0.field-0-is)) in
    rw (c.in-Some-eq0.ensures.0 ∙ same) c.write_str.ensures.writes
