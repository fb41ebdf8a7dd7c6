use Rattle.std.proofs.Common.{subst}
use Rattle.std.specs.Prelude.{false, true}
use Rattle.plural_runtime.specs.declared.kinds.AndOr.{AndOr}
use Rattle.plural_runtime.specs.Inner.RuleViews.{lent_relation}
use Rattle.plural_base.specs.Inner.Masks.{IsToldAt}
use Rattle.plural_base.specs.Inner.WholeNumbers.{earlier_after, group_after}
use Rattle.plural_base.specs.ToldCategories.{truth_or}
use Rattle.plural_base.proofs.rules.told.walk_on.Goals as goal

pub returns-in-And-clause-earlier : goal.returns-in-And-clause-earlier
returns-in-And-clause-earlier g c = λ class b d e f first second.
    let P : AndOr → Type 0 = λ mark. IsToldAt class (earlier_after mark b e) (earlier_after mark d f) c.args.walk.earlier in
    subst P c.in-And.ensures first

pub returns-in-And-clause-group : goal.returns-in-And-clause-group
returns-in-And-clause-group g c = λ class o d e h wanted has is.
    let told = g.C.NumberClasses.is_told c.args.classes class in
    let relation = lent_relation c.args.relation.now in
    let P : AndOr → Type 0 = λ mark.
    IsToldAt class (group_after mark d (truth_or false told o relation)) (group_after mark e (truth_or true told o relation)) c.and_relation.result in
    subst P c.in-And.ensures (c.and_relation.ensures class o d e h wanted has is)

pub returns-in-Or-clause-earlier : goal.returns-in-Or-clause-earlier
returns-in-Or-clause-earlier g c = λ class b d e f first second.
    let P : AndOr → Type 0 = λ mark. IsToldAt class (earlier_after mark b e) (earlier_after mark d f) c.either.result in
    subst P c.in-Or.ensures (c.either.ensures class b d e f first second)

pub returns-in-Or-clause-group : goal.returns-in-Or-clause-group
returns-in-Or-clause-group g c = λ class o d e h wanted has is.
    let told = g.C.NumberClasses.is_told c.args.classes class in
    let relation = lent_relation c.args.relation.now in
    let P : AndOr → Type 0 = λ mark.
    IsToldAt class (group_after mark d (truth_or false told o relation)) (group_after mark e (truth_or true told o relation)) c.told_relation.result in
    subst P c.in-Or.ensures (c.told_relation.ensures class o h has)
