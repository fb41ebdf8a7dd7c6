use Rattle.std.proofs.Common.{sym, inl}
use Rattle.plural_runtime.proofs.trees.PackedTrees.{packing-large}
use Rattle.plural_runtime.proofs.rule.Rule.try_from.Goals as goal

pub returns-then-has_large_value-clause-packs : goal.returns-then-has_large_value-clause-packs
returns-then-has_large_value-clause-packs c =
    inl (sym (packing-large c.args.rule.now.condition (sym c.if-has_large_value.ensures)))
