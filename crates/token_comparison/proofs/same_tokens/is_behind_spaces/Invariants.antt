use Rattle.std.proofs.Common.{List, length}
use Rattle.plural_reference.specs.Lexer.{AreTokensOf}
use Rattle.plural_reference.specs.declared.token.Token.{Token}
use Rattle.token_comparison.proofs.same_tokens.is_behind_spaces.Given as goal

abbrev pub invariant-spaces : goal.invariant-spaces
invariant-spaces l = (tokens : List Token) → AreTokensOf l.rest tokens → AreTokensOf l.initial.rest tokens

abbrev pub decreases-spaces : goal.decreases-spaces
decreases-spaces l = length l.rest
