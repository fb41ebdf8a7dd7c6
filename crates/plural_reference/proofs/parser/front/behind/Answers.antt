use Rattle.std.proofs.Common.{refl}
use Rattle.plural_reference.specs.declared.token.Token.TheVariants.{At, Comma, Modulo, Tilde}
use Rattle.plural_reference.specs.Inner.Scan.{tokens_from}
use Rattle.plural_reference.proofs.tokens.FirstBytes.{behind_byte}
use Rattle.plural_reference.proofs.parser.front.behind.Goals as goal

pub returns-in-Comma : goal.returns-in-Comma
unfolding tokens_from
returns-in-Comma c = rw c.in-Comma.is (behind_byte Comma 44 _ _ (λ b h. h) (λ after. refl) c.requires c.strip_byte.ensures)

pub returns-in-Modulo : goal.returns-in-Modulo
unfolding tokens_from
returns-in-Modulo c =
    rw c.in-Modulo.is (behind_byte Modulo 37 _ _ (λ b h. h) (λ after. refl) c.requires c.strip_byte-in-Modulo.ensures)

pub returns-in-At : goal.returns-in-At
unfolding tokens_from
returns-in-At c = rw c.in-At.is (behind_byte At 64 _ _ (λ b h. h) (λ after. refl) c.requires c.strip_byte-in-At.ensures)

pub returns-in-Tilde : goal.returns-in-Tilde
unfolding tokens_from
returns-in-Tilde c = rw c.in-Tilde.is (behind_byte Tilde 126 _ _ (λ b h. h) (λ after. refl) c.requires c.strip_byte-in-Tilde.ensures)
