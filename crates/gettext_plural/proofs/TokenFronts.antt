-- Numbers from 4294967296 on are one, and no token has it.
use Rattle.std.proofs.Common.{◌≡◌, ◌<◌, ◌≤◌, ℕ, min, sym, ap, ◌∙◌, arith, ⊎_elim}
use Rattle.std.proofs.lemmas.Bool.{cond-false, cond-true}
use Rattle.std.proofs.lemmas.Bool.Decides.{leb_tells}
use Rattle.std.specs.Prelude.{nat_le}
use Rattle.gettext_plural.specs.declared.token.Token.TheVariants.{Number, Junk}
use Rattle.gettext_plural.specs.PluralTokens.{max_literal, literal_token}

-- a smaller number is its token's
pub small_number : (n value : ℕ) → value ≡ min n 4294967296 → value < 4294967296 → Number value ≡ literal_token n
small_number n value is less =
    ap Number (omega (arith, is, less))
    ∙ ⊎_elim (λ yes. sym (cond-true (nat_le n max_literal) (Number n) Junk yes.0)) (λ no. absurd (omega (arith, no.1, is, less)))
    (leb_tells n max_literal)

-- the others are Junk
pub large_number : (n value : ℕ) → value ≡ min n 4294967296 → 4294967296 ≤ value → Junk ≡ literal_token n
large_number n value is more =
    ⊎_elim (λ yes. absurd (omega (arith, yes.1, is, more))) (λ no. sym (cond-false (nat_le n max_literal) (Number n) Junk no.0))
    (leb_tells n max_literal)
