use Rattle.std.proofs.Common.{ℕ, ◌+◌, ap, sym, ◌∙◌, subst}
use Rattle.fixed_decimal.specs.Places.{Places, IsOverLimit, shift_right}
use Rattle.fixed_decimal.specs.Inner.UnsignedInside.{places_of}
use Rattle.fixed_decimal.proofs.Spans.{right_view, right_over, right_within}
use Rattle.fixed_decimal.proofs.unsigned.UnsignedDecimal.move_right.Goals as goal

pub returns-then-by-self-clause-limit : goal.returns-then-by-self-clause-limit
returns-then-by-self-clause-limit c =
    subst (λ (x : Places). IsOverLimit (shift_right c.args.by x)) c.self.view_is
    (right_over c.self.inside c.args.by c.self.invariant c.if-by-self.true)

pub returns-clause-shifted : goal.returns-clause-shifted
returns-clause-shifted c =
    ap (λ (f : ℕ). places_of
    (record c.self.inside { whole_places = c.self.inside.whole_places + c.args.by; fraction_places = f }))
    c.saturating_sub-self-inside.ensures
    ∙ right_view c.self.inside c.args.by c.self.invariant
    ∙ ap (λ (x : Places). shift_right c.args.by x) c.self.view_is

pub returns-clause-within : goal.returns-clause-within
returns-clause-within c o =
    right_within c.self.inside c.args.by c.self.invariant c.if-by-self.false
    (subst (λ (x : Places). IsOverLimit (shift_right c.args.by x)) (sym c.self.view_is) o)
