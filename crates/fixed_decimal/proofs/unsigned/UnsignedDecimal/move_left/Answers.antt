use Rattle.std.proofs.Common.{ap, sym, ◌∙◌, subst}
use Rattle.fixed_decimal.specs.Places.{Places, IsOverLimit, shift_left}
use Rattle.fixed_decimal.proofs.Spans.{left_view, past_view, left_over, left_within}
use Rattle.fixed_decimal.proofs.unsigned.UnsignedDecimal.move_left.Goals as goal

pub returns-then-by-self-clause-limit : goal.returns-then-by-self-clause-limit
returns-then-by-self-clause-limit c =
    subst (λ (x : Places). IsOverLimit (shift_left c.args.by x)) c.self.view_is
    (left_over c.self.inside c.args.by c.self.invariant c.if-by-self.true)

pub returns-then-by-self-2-clause-shifted : goal.returns-then-by-self-2-clause-shifted
returns-then-by-self-2-clause-shifted c =
    left_view c.self.inside c.args.by c.self.invariant c.if-by-self-2.true ∙ ap (λ (x : Places). shift_left c.args.by x) c.self.view_is

pub returns-then-by-self-2-clause-within : goal.returns-then-by-self-2-clause-within
returns-then-by-self-2-clause-within c o =
    left_within c.self.inside c.args.by c.self.invariant c.if-by-self.false
    (subst (λ (x : Places). IsOverLimit (shift_left c.args.by x)) (sym c.self.view_is) o)

pub returns-else-by-self-2-clause-shifted : goal.returns-else-by-self-2-clause-shifted
returns-else-by-self-2-clause-shifted c =
    past_view c.self.inside c.args.by c.self.invariant c.if-by-self-2.false ∙ ap (λ (x : Places). shift_left c.args.by x) c.self.view_is

pub returns-else-by-self-2-clause-within : goal.returns-else-by-self-2-clause-within
returns-else-by-self-2-clause-within c o =
    left_within c.self.inside c.args.by c.self.invariant c.if-by-self.false
    (subst (λ (x : Places). IsOverLimit (shift_left c.args.by x)) (sym c.self.view_is) o)
