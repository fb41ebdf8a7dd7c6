use Rattle.std.proofs.Common.{◌≡◌, ◌∷◌, [], ◌-◌, ℕ, List, take, drop, length, get_or, arith, rules, refl, ap, ⊎_elim}
use Rattle.plural_reference.specs.declared.token.Token.TheVariants.{Zero}
use Rattle.plural_reference.specs.Inner.Scan.{tokens_of, tokens_from}
use Rattle.plural_reference.proofs.plain.PlainBytes.{split_front}
use Rattle.plural_reference.proofs.tokens.FirstBytes.{no_value}
use Rattle.plural_reference.proofs.parser.front.number_at.Goals as goal

pub returns-then-digit-eq48 : goal.returns-then-digit-eq48
unfolding tokens_from
returns-then-digit-eq48 c =
    let text : List ℕ = c.args.text.now in
    let zero : get_or text 0 0 ≡ 48 = search rules in
    let parts : text ≡ 48 ∷ take (length text - 1) (drop 1 text)
    = split_front (48 ∷ []) text (omega (arith, c.in-len1-up.len_at_least)) (zero, tt) in
    (Zero, ap tokens_of parts, refl)

pub returns-then-not-is_ascii_digit : goal.returns-then-not-is_ascii_digit
returns-then-not-is_ascii_digit c =
    no_value c.args.text.now c.requires
    (λ d. ⊎_elim (λ low. omega (arith, low, d.0)) (λ high. omega (arith, high, d.1)) c.if-not-is_ascii_digit.ensures.cases)
