use Rattle.std.proofs.Common.{◌≡◌, ℕ, List, None, Option, Some, IfOk, sym, ap, subst, ◌∙◌}
use Rattle.std.proofs.lemmas.Result.{IfOk-weaker}
use Rattle.plural_documents.proofs.JsonTextLemmas.{value_refused, value_there}
use Rattle.plural_documents.specs.Inputs.{json_of}
use Rattle.po_catalog.specs.ReadCatalogs.{behind_mark}
use Rattle.serde_json.specs.Data.{Data}
use Rattle.serde_json.specs.View.{view}
use Rattle.translation_files.specs.ReadFiles.{IsBroken, IsReadAsJson}
use Rattle.translation_files.proofs.json_file.read_json.Goals as goal

pub returns-in-Ok : goal.returns-in-Ok
returns-in-Ok g c =
    let bytes = behind_mark c.args.bytes.now in
    let known : json_of bytes ≡ Some (view c.in-Ok.value) =
    ap json_of (sym c.without_mark-bytes.ensures) ∙ value_there _ _ c.in-Ok.ensures.ok.0 c.in-Ok.ensures.ok.1 in
    subst (λ (read : Option Data). IfOk c.read_value.result (IsReadAsJson bytes read)) (sym known) c.read_value.ensures

pub returns-in-Err : goal.returns-in-Err
returns-in-Err g c =
    let bytes = behind_mark c.args.bytes.now in
    IfOk-weaker c.no_json.result _ _
    (λ file told.
    let none : json_of bytes ≡ None =
    ap json_of (sym c.without_mark-bytes.ensures) ∙ value_refused _ (c.in-Err.ensures.err told.0) in
    rw none (subst (λ (bs : List ℕ). IsBroken bs file) c.without_mark-bytes.ensures told.1))
    c.no_json.ensures
