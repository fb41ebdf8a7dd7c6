use Rattle.plural_reference.proofs.tokens.FirstBytes.{ellipsis_by_third}
use Rattle.plural_reference.proofs.parser.front.behind_ellipsis.Goals as goal

pub returns : goal.returns
returns c = ellipsis_by_third _ _ _ _ c.in_ok-rest.ensures c.in_ok-last.ensures c.strip_byte-3.ensures
