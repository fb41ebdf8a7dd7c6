use Rattle.std.proofs.Common.{◌∙◌, ◌++◌, ap, refl}
use Rattle.plural_runtime.proofs.texts.TextItems.{holds_range}
use Rattle.plural_runtime.proofs.text_bytes.TextRelationsRelationSink.push.Goals as goal

pub returns : goal.returns
returns c before ranges h =
    let old = c.args.self.now in
    holds_range old _ before ranges c.args.range refl refl
    (c.in_ok-extend_from_slice.ensures.ok ∙ ap (λ xs. old.ranges.items ++ xs) c.range_of.ensures) h
