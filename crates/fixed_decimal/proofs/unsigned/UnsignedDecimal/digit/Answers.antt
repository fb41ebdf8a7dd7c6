use Rattle.std.proofs.Common.{◌≡◌, ◌-◌, ◌++◌, ap, sym, ◌∙◌, get_or, rules}
use Rattle.fixed_decimal.specs.Places.{Places}
use Rattle.fixed_decimal.proofs.Spans.{digit_after, digit_at_index}
use Rattle.fixed_decimal.proofs.unsigned.UnsignedDecimal.digit.Goals as goal

pub returns : goal.returns
returns c =
    let found : c.unwrap_or.result ≡ get_or c.self.inside.span.items (c.args.index - c.self.inside.leading_zeros) 0 = search rules in
    found ∙ sym (digit_after c.self.inside c.args.index c.if-index-leading.false) ∙ digit_at_index c.self.inside c.args.index
    ∙ ap (λ (x : Places). get_or (x.whole ++ x.fraction) c.args.index 0) c.self.view_is
