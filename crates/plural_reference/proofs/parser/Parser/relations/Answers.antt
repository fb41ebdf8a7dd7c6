use Rattle.std.proofs.Common.{◌∙◌, sym, subst, Err}
use Rattle.std.proofs.lemmas.Result.{err_from_is_err_and}
use Rattle.plural_reference.specs.RelationSinks.{nothing}
use Rattle.plural_reference.proofs.reading.ParserSteps.{joins, joint_fault, nothing_joins, condition_is, no_condition, passes_on}
use Rattle.plural_reference.proofs.parser.Parser.relations.Goals as goal

pub returns-in_default : goal.returns-in_default
returns-in_default g c =
    let r = rw c.in_default.is at c.in_ok-expression.ensures.relation in (
      nothing,
      subst (λ items. g.S.RelationSink.holds c.relation.new.sink nothing items) r.1.2 (r.2 nothing c.requires),
      no_condition _ _ r.1.0 r.1.1,
    )

pub joints-init : goal.joints-init
joints-init g c =
    let r = rw c.in-Some.is at c.in_ok-expression.ensures.relation in
    (_, c.in_ok-take.ensures nothing _ (r.2 nothing c.requires), r.1 nothing)

pub returns-in_err-expression-2 : goal.returns-in_err-expression-2
returns-in_err-expression-2 g c =
    let p = err_from_is_err_and c.from_residual-in_err-expression-2.result c.from_residual-in_err-expression-2.ensures.1 in
    rw (p.1, p.2)
    (passes_on _ _ c.in_err-expression-2.field-0.0 c.in_err-expression-2.ensures.relation
    (λ kind q. joint_fault _ _ _ _ _ _ kind c.joints.invariant.2 c.in-Some-joint.ensures q))

pub returns-in_default-2 : goal.returns-in_default-2
returns-in_default-2 g c =
    let r = rw c.in_default-2.is at c.in_ok-expression-2.ensures.relation in
    nothing_joins _ _ _ _ _ c.joints.invariant.2 c.in-Some-joint.ensures r.1.0 ∙ (λ i. Err (sym c.expected_behind.ensures i, sym r.1.1 i))

pub joints-preserved : goal.joints-preserved
joints-preserved g c =
    let r = rw c.in-Some-2.is at c.in_ok-expression-2.ensures.relation in (
      _,
      c.in_ok-take-2.ensures _ _ (r.2 _ c.joints.invariant.1),
      joins _ _ _ _ _ _ _ c.joints.invariant.2 c.in-Some-joint.ensures r.1,
    )

pub returns : goal.returns
returns g c =
    let n = c.in_default-joint.ensures in
    (_, c.joints.invariant.1, rw n.2 (condition_is _ _ _ c.joints.invariant.2 n.0 n.1))
