use Rattle.std.proofs.Common.{arith, sym}
use Rattle.std.proofs.lemmas.Bool.{eqb-true, eqb-false}
use Rattle.plural_runtime.proofs.truth.TreeGroups.{no_relations, grouped_tree}
use Rattle.plural_runtime.proofs.unpack.condition_of.Goals as goal

pub returns-then-is_empty : goal.returns-then-is_empty
returns-then-is_empty c =
    no_relations c.new.result.items c.args.rule.now (eqb-true _ _ (sym c.if-is_empty.ensures)) c.new.ensures.items

pub add_groups-requires-clause-some : goal.add_groups-requires-clause-some
add_groups-requires-clause-some c = omega (arith, eqb-false _ _ (sym c.if-is_empty.ensures))

pub returns : goal.returns
returns c = grouped_tree c.add_groups.new.groups.items c.args.rule.now c.in_ok-add_groups.ensures
