use Rattle.std.proofs.Common.{Some}
use Rattle.plural_base.proofs.encoding.RawCategories.{others_stay}
use Rattle.plural_base.proofs.ranges.PluralRanges.insert.Goals as goal

pub returns-clause-others : goal.returns-clause-others
returns-clause-others c = λ s e other.
    rw (c.set-2.ensures, c.set.ensures, c.get-row.ensures, ← c.self.view_is)
    (others_stay c.self.inside.rows c.args.start c.args.end (Some c.args.category) s e other)
