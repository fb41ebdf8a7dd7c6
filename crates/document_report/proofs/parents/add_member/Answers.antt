use Rattle.std.proofs.Common.{List, ℕ, Option, ap, refl, ◌∙◌}
use Rattle.serde_json.specs.Find.{as_str}
use Rattle.serde_json.specs.View.{view}
use Rattle.document_report.specs.FoundInDocuments.{together}
use Rattle.document_members.specs.ParentRows.{named_parent}
use Rattle.document_report.specs.ParentFaults.{found_of_chain, found_of_child, found_of_parent}
use Rattle.document_report.proofs.FoundParts.{on_ok, three_more}
use Rattle.document_report.proofs.parents.add_member.Goals as goal

pub returns-clause-found : goal.returns-clause-found
returns-clause-found c =
    let key = c.args.key.now in
    let child = found_of_child key in
    let parent = found_of_parent key (as_str (view c.args.value.now)) in
    let chain = found_of_chain (named_parent c.args.parents.now) key in
    on_ok c.add_chain.result
    (λ added. (
      together child (together parent chain),
      refl,
      three_more c.args.found.now child parent chain c.add_child.new.found c.add_parent.new.found c.add_chain.new.found
          c.in_ok-add_child.ensures
          (c.in_ok-add_parent.ensures
          ∙ ap (λ (text : Option (List ℕ)). together c.add_child.new.found (found_of_parent key text)) c.as_str.ensures)
          added,
    ))
    c.add_chain.ensures.found
