use Rattle.std.proofs.Common.{rules}
use Rattle.plural_base.proofs.integers.Bits.{none_open}
use Rattle.plural_base.proofs.integers.Told.{told_false_with}
use Rattle.plural_base.proofs.rules.told.and_relation.Goals as goal

pub returns-then-wanted-group-eq0 : goal.returns-then-wanted-group-eq0
returns-then-wanted-group-eq0 g c = λ class o d e h wanted has told.
    told_false_with class d e _ _ c.args.group (none_open c.args.wanted c.args.group.no class (search rules) h c.if-wanted-group-eq0.true wanted) told

pub returns : goal.returns
returns g c = λ class o d e h wanted has told. c.both.ensures class d e _ _ told (c.told_relation.ensures class o h has)
