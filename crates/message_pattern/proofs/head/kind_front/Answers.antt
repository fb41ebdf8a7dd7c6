use Rattle.std.proofs.Common.{◌∙◌}
use Rattle.message_pattern.proofs.Heads.{nonempty, kind_front_is}
use Rattle.message_pattern.proofs.head.kind_front.Goals as goal

pub returns-clause-kind : goal.returns-clause-kind
returns-clause-kind c =
    c.kind_before.ensures.kind
    ∙ kind_front_is c.args.text.now c.split_run.result.0.now c.split_run.result.1.now c.after_white.result.now
    c.kind_named.result c.split_run.ensures.front
    (nonempty _ _ c.is_empty.ensures c.if-is_empty.false) c.split_run.ensures.rest c.after_white.ensures.rest c.kind_named.ensures
