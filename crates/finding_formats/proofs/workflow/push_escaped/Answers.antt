use Rattle.std.proofs.Common.{◌≡◌, ◌++◌, string_bytes, ap, rules}
use Rattle.std.specs.List.{flat_map}
use Rattle.std.specs.Str.Iter.{chars_rest}
use Rattle.finding_formats.specs.WorkflowCommands.{slot_byte}
use Rattle.finding_formats.proofs.EscapedChars.{next_char, no_more}
use Rattle.finding_formats.proofs.workflow.push_escaped.Goals as goal

pub loop-c-init : goal.loop-c-init
loop-c-init c =
    let whole : chars_rest c.into_iter-c-iterator.result ≡ c.args.part.now = search rules in
    ap (λ rest. string_bytes c.args.text.now ++ flat_map (slot_byte c.args.slot) rest) whole

pub loop-c-preserved : goal.loop-c-preserved
loop-c-preserved c = next_char c.args.slot c.in-Some.c _ _ _ _ _ c.in-Some.ensures.steps.0 c.in_ok-push_char.ensures c.loop-c.invariant

pub returns : goal.returns
returns c = no_more c.args.slot _ _ _ c.in-None.ensures.steps.0.0 c.loop-c.invariant
