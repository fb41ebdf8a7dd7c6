use Rattle.std.proofs.Common.{string_bytes, ap, subst, ◌∙◌}
use Rattle.serde_json.specs.View.{view, members_view}
use Rattle.plural_documents.specs.Steps.{HasGrownBy}
use Rattle.plural_documents.proofs.MemberSteps.{Completes, begins, ends, goes_on}
use Rattle.plural_documents.proofs.members.add_members.Goals as goal

pub loop-key-init : goal.loop-key-init
loop-key-init g c =
    begins g.F.Findings.nothing g.F.Findings.together (g.C.MemberCheck.finds c.args.check.now) (members_view c.args.members.now.entries)
    c.args.found.now _ (ap members_view (c.into_iter-key-iterator.ensures.into_iter_gives ∙ c.iter-key-items.ensures.rest))

pub loop-key-preserved : goal.loop-key-preserved
loop-key-preserved g c =
    let nothing = g.F.Findings.nothing in
    let together = g.F.Findings.together in
    let Is = g.C.MemberCheck.finds c.args.check.now in
    let all = members_view c.args.members.now.entries in
    let value = view c.in-Some.value.now in
    goes_on nothing together Is all c.args.found.now g.met.F.Findings.joins (string_bytes c.in-Some.key.now) value
    (members_view c.next.new.self)
    c.loop-key.found c.add.new.found
    (subst (λ es. Completes nothing together Is (members_view es) all c.loop-key.found c.args.found.now) c.in-Some.ensures.steps
    c.loop-key.invariant)
    (subst (λ key. HasGrownBy together (Is key value) c.loop-key.found c.add.new.found) c.as_str.ensures.value c.in_ok-add.ensures)

pub returns : goal.returns
returns g c =
    let nothing = g.F.Findings.nothing in
    let together = g.F.Findings.together in
    let Is = g.C.MemberCheck.finds c.args.check.now in
    let all = members_view c.args.members.now.entries in
    ends nothing together Is all c.args.found.now g.met.F.Findings.ends c.loop-key.found
    (subst (λ es. Completes nothing together Is (members_view es) all c.loop-key.found c.args.found.now) c.in-None.ensures.steps.0
    c.loop-key.invariant)
