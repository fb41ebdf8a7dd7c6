use Rattle.plural_reference.proofs.tokens.FirstBytes.{no_tokens_left}
use Rattle.plural_reference.proofs.tokens.Walk.{space_first, token_first}
use Rattle.plural_reference.proofs.parser.fault.behind_piece.Goals as goal

pub returns-in-Some : goal.returns-in-Some
returns-in-Some c = space_first _ _ c.in-Some.ensures

pub returns-in_err-after : goal.returns-in_err-after
returns-in_err-after c = rw c.from_residual.ensures (no_tokens_left _ c.in_default.ensures c.in_err-after.ensures.tokens)

pub returns : goal.returns
returns c = token_first _ _ _ c.in_default.ensures c.in_ok-after.ensures.tokens c.in_ok-after.ensures.behind
