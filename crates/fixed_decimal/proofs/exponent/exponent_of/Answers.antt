use Rattle.std.proofs.Common.{◌≡◌, ◌-◌, ◌<◌, [], ◌∷◌, ℕ, List, drop, take, length, get_or, arith, rules, subst, sym, ap}
use Rattle.std.proofs.lemmas.List.{take_rest}
use Rattle.fixed_decimal.specs.Written.{HasExponent}
use Rattle.fixed_decimal.specs.Inner.TextParts.{WritesUpToThree}
use Rattle.fixed_decimal.proofs.Exponents.{exponent_from, exponent_to}
use Rattle.fixed_decimal.proofs.exponent.exponent_of.Goals as goal

first_and_rest : (text : List ℕ) (b : ℕ) → 0 < length text → get_or text 0 0 ≡ b → text ≡ b ∷ drop 1 text
first_and_rest [] b h e = absurd (omega arith)
first_and_rest (c ∷ text) b h e = ap (λ d. d ∷ text) e

pub returns-in-99 : goal.returns-in-99
returns-in-99 c e =
    let text = c.args.text.now in
    let first : get_or text 0 0 ≡ 99 = search rules in
    let parts : text ≡ 99 ∷ drop 1 text = first_and_rest text 99 (omega arith) first in
    let rest : take (length text - 1) (drop 1 text) ≡ drop 1 text = take_rest text 1 in
    let few = c.value_of_few.ensures e in (
      λ some. subst (λ (t : List ℕ). HasExponent t e) (sym parts)
          (exponent_from (drop 1 text) e (subst (λ (t : List ℕ). WritesUpToThree t e) rest (few.0 some))),
      λ h. few.1 (subst (λ (t : List ℕ). WritesUpToThree t e) (sym rest)
          (exponent_to (drop 1 text) e (subst (λ (t : List ℕ). HasExponent t e) parts h))),
    )
