use Rattle.std.proofs.Common.{ℕ, List, Option, ap, subst, ◌∙◌}
use Rattle.std.specs.Prelude.{⊤}
use Rattle.serde_json.specs.Data.{Data}
use Rattle.serde_json.specs.Find.{get}
use Rattle.serde_json.specs.View.{view}
use Rattle.document_report.specs.CheckedDocument.{part_formed}
use Rattle.document_report.specs.Inner.CheckCalls.{GivesOnly}
use Rattle.document_report.proofs.form.check_part.Goals as goal

pub returns : goal.returns
returns c =
    subst (λ (value : Option Data). GivesOnly (λ (done : ⊤). done) (part_formed c.args.part value) c.check_members.result)
    (c.get.ensures ∙ ap (λ (name : List ℕ). get name (view c.args.value.now)) c.as_str.ensures) c.check_members.ensures
