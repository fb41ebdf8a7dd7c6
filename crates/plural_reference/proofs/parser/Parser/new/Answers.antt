use Rattle.std.proofs.Common.{subst, sym}
use Rattle.plural_reference.specs.Lexer.{AreTokensOf}
use Rattle.plural_reference.proofs.tokens.ScanSound.{has_tokens}
use Rattle.plural_reference.proofs.parser.Parser.new.Goals as goal

pub returns : goal.returns
returns c = subst (λ ts. AreTokensOf c.args.text.now ts) (sym c.behind_spaces.ensures.tokens) (has_tokens c.args.text.now)
