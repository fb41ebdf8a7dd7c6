use Rattle.std.proofs.Common.{◌≡◌, ℕ, List, Some, None, take, drop, length, sym, ◌∙◌, ap, subst}
use Rattle.std.proofs.lemmas.List.{take_at, drop_at}
use Rattle.fixed_decimal.specs.Written.{HasExponent}
use Rattle.fixed_decimal.proofs.Exponents.{exponent_begins}
use Rattle.fixed_decimal.proofs.exponent.split_exponent.Goals as goal

pub returns-in_err-exponent_of-clause-only : goal.returns-in_err-exponent_of-clause-only
returns-in_err-exponent_of-clause-only c front rest x e h k form =
    let at : c.exponent_start.result ≡ length front
    = exponent_begins c.args.text.now front rest x e c.exponent_start.result h k form c.exponent_start.ensures.most
    c.exponent_start.ensures.before c.exponent_start.ensures.found in
    let behind : c.split_at.result.1.now ≡ rest = c.split_at.ensures.back ∙ ap (drop c.exponent_start.result) form
    ∙ drop_at front rest c.exponent_start.result (sym at) in
    let some : c.exponent_of.result ≡ Some e = (c.exponent_of.ensures e).1 (subst (λ (s : List ℕ). HasExponent s e) (sym behind) k) in
    let none : c.exponent_of.result ≡ None = c.in_err-exponent_of.was in
    absurd cc

pub returns-clause-found : goal.returns-clause-found
returns-clause-found c = (
  c.split_at.result.1.now,
  (c.exponent_of.ensures c.in_ok-exponent_of.field-0).0 c.in_ok-exponent_of.was,
  c.split_at.ensures.by_index.0,
)

pub returns-clause-only : goal.returns-clause-only
returns-clause-only c front rest x e h k form =
    let at : c.exponent_start.result ≡ length front
    = exponent_begins c.args.text.now front rest x e c.exponent_start.result h k form c.exponent_start.ensures.most
    c.exponent_start.ensures.before c.exponent_start.ensures.found in
    let behind : c.split_at.result.1.now ≡ rest = c.split_at.ensures.back ∙ ap (drop c.exponent_start.result) form
    ∙ drop_at front rest c.exponent_start.result (sym at) in
    let some : c.exponent_of.result ≡ Some e = (c.exponent_of.ensures e).1 (subst (λ (s : List ℕ). HasExponent s e) (sym behind) k) in
    let was : c.exponent_of.result ≡ Some c.in_ok-exponent_of.field-0 = c.in_ok-exponent_of.was in
    (c.split_at.ensures.front ∙ ap (take c.exponent_start.result) form ∙ take_at front rest c.exponent_start.result (sym at), cc)
