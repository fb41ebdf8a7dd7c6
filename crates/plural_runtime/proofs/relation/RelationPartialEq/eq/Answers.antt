use Rattle.std.proofs.Common.{◌≡◌, ap}
use Rattle.std.proofs.lemmas.Bool.Decides.{same_from_decides}
use Rattle.plural_runtime.specs.PackedRelations.{PackedRelation}
use Rattle.plural_runtime.specs.Inner.RuleViews.{lent_relation}
use Rattle.plural_runtime.proofs.trees.SameRelations.{is_same_relation-Decides, lent_same}
use Rattle.plural_runtime.proofs.relation.RelationPartialEq.eq.Goals as goal

pub returns-clause-equal : goal.returns-clause-equal
returns-clause-equal c =
    let kinds : c.args.self.now.kind ≡ c.args.other.now.kind = c.same_kind.ensures.0 c.if-not-same_kind.false in (
      (λ h. lent_same c.args.self.now c.args.other.now kinds c.if-self-other.false (c.same_ranges.ensures.0 h)),
      (λ h. c.same_ranges.ensures.1 (ap (λ (relation : PackedRelation). relation.meaning.ranges) h)),
    )

pub returns-clause-same : goal.returns-clause-same
returns-clause-same c = same_from_decides _ _ (returns-clause-equal c)
    (is_same_relation-Decides (lent_relation c.args.self.now) (lent_relation c.args.other.now))
