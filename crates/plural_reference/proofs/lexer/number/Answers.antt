use Rattle.std.proofs.Common.{◌≡◌, ◌-◌, ◌+◌, ◌*◌, ◌∷◌, ◌∙◌, [], ℕ, List, take, drop, length, get_or, arith, refl, sym, ap}
use Rattle.plural_reference.specs.Inner.Scan.{tokens_from, tokens_of, in_number, number_token}
use Rattle.plural_reference.proofs.plain.PlainBytes.{split_front}
use Rattle.plural_reference.specs.Inner.BehindFirst.{rest_from}
use Rattle.plural_reference.proofs.tokens.OpenNumbers.{number_opens, number_goes_on, number_ends, number_stops}
use Rattle.plural_reference.proofs.tokens.OpenNumbers.{number_opens_behind, number_goes_on_behind, number_ends_behind, number_stops_behind}
use Rattle.plural_reference.proofs.lexer.number.Goals as goal
use Rattle.plural_reference.proofs.lexer.number.Goals.{in_default, in-len1-up+then-not-is_ascii_digit}

pub loop-rest-init : goal.loop-rest-init
loop-rest-init c =
    let first = c.args.first in
    let text : List ℕ = c.args.text.now in
    let low = c.requires.low in
    let high = c.requires.high in
    (first - 48, omega arith, number_opens first text low high, number_opens_behind first text low high)

pub loop-rest-preserved : goal.loop-rest-preserved
loop-rest-preserved c =
    let rest : List ℕ = c.loop-rest.rest.now in
    let digit : ℕ = get_or rest 0 0 in
    let after : List ℕ = take (length rest - 1) (drop 1 rest) in
    let parts : rest ≡ digit ∷ after = split_front (digit ∷ []) rest (omega (arith, c.in-len1-up.len_at_least)) (refl, tt) in
    let n = c.loop-rest.invariant.0 in (
      n * 10 + (digit - 48),
      c.pushed-value.ensures n c.loop-rest.invariant.1,
      number_goes_on n digit after c.if-not-is_ascii_digit.ensures.cases ∙ ap (tokens_from (in_number n)) (sym parts)
          ∙ c.loop-rest.invariant.2,
      number_goes_on_behind n digit after c.if-not-is_ascii_digit.ensures.cases ∙ ap (rest_from (in_number n)) (sym parts)
          ∙ c.loop-rest.invariant.3,
    )

pub returns-clause-tokens : goal.returns-clause-tokens
returns-clause-tokens c =
    let rest : List ℕ = c.loop-rest.rest.now in
    let n = c.loop-rest.invariant.0 in
    let ended : tokens_from (in_number n) rest ≡ number_token n ∷ tokens_of rest
    = elim c.if-rest-lt1.branch [
      | in_default w ↦ number_ends n rest w.in_default.len_below
      | in-len1-up+then-not-is_ascii_digit w ↦
          number_stops n rest w.in-len1-up.len_at_least (sym w.if-not-is_ascii_digit.ensures.value)
    ] in
    sym c.loop-rest.invariant.2 ∙ ended ∙ ap (λ t. t ∷ tokens_of rest) (sym (c.number_token.ensures n c.loop-rest.invariant.1))

pub returns-clause-behind : goal.returns-clause-behind
returns-clause-behind c =
    let rest : List ℕ = c.loop-rest.rest.now in
    let n = c.loop-rest.invariant.0 in
    let ended : rest_from (in_number n) rest ≡ rest
    = elim c.if-rest-lt1.branch [
      | in_default w ↦ number_ends_behind n rest w.in_default.len_below
      | in-len1-up+then-not-is_ascii_digit w ↦
          number_stops_behind n rest w.in-len1-up.len_at_least (sym w.if-not-is_ascii_digit.ensures.value)
    ] in
    sym c.loop-rest.invariant.3 ∙ ended
