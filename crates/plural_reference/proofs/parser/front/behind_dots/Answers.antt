use Rattle.plural_reference.proofs.tokens.FirstBytes.{dots_by_second}
use Rattle.plural_reference.proofs.parser.front.behind_dots.Goals as goal

pub returns : goal.returns
returns c = dots_by_second _ _ _ c.in_ok-rest.ensures c.strip_byte-2.ensures
