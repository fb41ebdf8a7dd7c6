use Rattle.std.proofs.Common.{◌++◌, string_bytes, ap, arith, sym, ◌∙◌}
use Rattle.finding_formats.proofs.EscapedChars.{escape_written, if_ok, kept_written, low_of, on_ok}
use Rattle.finding_formats.proofs.workflow.push_char.Goals as goal

pub overflow_cast-c : goal.overflow_cast-c
overflow_cast-c c = omega (arith, low_of c.args.slot c.args.c (sym c.if-needs_escape.ensures))

pub returns-then-needs_escape : goal.returns-then-needs_escape
returns-then-needs_escape c =
    on_ok c.push_str.result
    (λ wrote. wrote ∙ ap (λ shown. string_bytes c.args.text.now ++ shown)
    (c.percent_encode_byte.ensures ∙ sym (escape_written c.args.slot c.args.c (sym c.if-needs_escape.ensures))))
    (if_ok c.push_str.result _ _ _ c.push_str.ensures.bytes)

pub returns : goal.returns
returns c =
    on_ok c.push.result
    (λ wrote. wrote ∙ ap (λ shown. string_bytes c.args.text.now ++ shown)
    (sym (kept_written c.args.slot c.args.c (sym c.if-needs_escape.ensures))))
    (if_ok c.push.result _ _ _ c.push.ensures.bytes)
