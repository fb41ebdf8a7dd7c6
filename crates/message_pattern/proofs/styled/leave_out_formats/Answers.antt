use Rattle.std.proofs.Common.{◌<◌, ℕ, length, sym, subst, ◌∙◌}
use Rattle.message_pattern.proofs.WithFormats.{unstyled_step}
use Rattle.message_pattern.proofs.styled.leave_out_formats.Goals as goal

pub loop-i-preserved : goal.loop-i-preserved
loop-i-preserved c =
    let within : c.loop-i.i < length c.loop-i.parts.items =
    subst (λ (n : ℕ). c.loop-i.i < n) (c.len-i-end.ensures ∙ (c.args.parts.now.ok.0 ∙ sym c.loop-i.invariant.length)) c.loop-i-test.true in
    let step = unstyled_step c.args.parts.now.items c.loop-i.parts.items c.loop-i.i c.index.result.now c.unstyled_part.result within
    c.loop-i.invariant.length c.loop-i.invariant.parts c.index.ensures c.unstyled_part.ensures in
    record { parts = step.0; length = step.1 }
