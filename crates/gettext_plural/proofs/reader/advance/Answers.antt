use Rattle.std.proofs.Common.{◌≡◌, ◌∷◌, arith, length, sym, ◌∙◌}
use Rattle.gettext_plural.specs.Inner.FormulaViews.{stage_view}
use Rattle.gettext_plural.proofs.ReaderSteps.{blank_taken, error_stops, token_taken}
use Rattle.gettext_plural.proofs.reader.advance.Goals as goal

pub returns-then-is_blank-clause-taken : goal.returns-then-is_blank-clause-taken
returns-then-is_blank-clause-taken c = λ text not_last h.
    blank_taken text (stage_view c.args.pending.now.items c.args.operand) c.args.first c.args.behind.now not_last
    (sym c.is_blank.ensures ∙ c.if-is_blank.true) h

pub returns-in-Ok-clause-taken : goal.returns-in-Ok-clause-taken
returns-in-Ok-clause-taken c = λ text not_last h.
    token_taken text (stage_view c.args.pending.now.items c.args.operand)
    (stage_view c.take.new.pending.items c.in-Ok.operand) c.args.first c.args.behind.now _ _ not_last
    (sym c.is_blank.ensures ∙ c.if-is_blank.false) c.token_at-token.ensures.token c.token_at-token.ensures.behind c.in-Ok.ensures h

pub returns-in-Err-clause-stopped : goal.returns-in-Err-clause-stopped
returns-in-Err-clause-stopped c = λ text not_last h.
    let size : c.left_before-left.result ≡ length (c.args.first ∷ c.args.behind.now) = omega (arith, c.left_before-left.ensures) in
    error_stops text (stage_view c.args.pending.now.items c.args.operand) c.args.first c.args.behind.now c.token_at-token.result.0
    c.left_before-left.result c.in-Err.error not_last
    (sym c.is_blank.ensures ∙ c.if-is_blank.false) c.token_at-token.ensures.token size c.in-Err.ensures h
