use Rattle.std.specs.List.{All}
use Rattle.document_members.specs.Inner.Rows.{IsStop}
use Rattle.document_members.specs.ParentRows.{named_parent}
use Rattle.document_members.specs.ChainSteps.{short_next}
use Rattle.std.proofs.lemmas.List.Elements.{All-same}
use Rattle.document_members.proofs.ChainSteps.{is_told}
use Rattle.document_members.proofs.chains.goes_on.Goals as goal

pub returns-clause-answer : goal.returns-clause-answer
returns-clause-answer c =
    is_told (short_next (named_parent c.args.parents.now)) c.args.locale.now c.in_ok-steps.steps c.in_ok-steps.ensures.steps

pub returns-clause-known : goal.returns-clause-known
returns-clause-known c =
    let next = short_next (named_parent c.args.parents.now) in
    let path : All (IsStop next c.args.locale.now) c.as_slice.result.now =
    All-same (IsStop next c.args.locale.now) c.as_slice.result.now c.walk.new.path.items c.as_slice.ensures.value
    c.in_ok-steps.ensures.path in
    c.learn_all.ensures next c.args.locale.now c.in_ok-steps.ensures.steps path c.requires
