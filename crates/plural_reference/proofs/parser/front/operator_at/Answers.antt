use Rattle.plural_reference.proofs.tokens.FirstBytes.{is_not_equal}
use Rattle.plural_reference.proofs.parser.front.operator_at.Goals as goal

pub returns : goal.returns
returns c = is_not_equal _ _ _ c.in_ok-rest.ensures c.in_ok-after.ensures
