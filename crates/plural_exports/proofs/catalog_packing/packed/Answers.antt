use Rattle.std.proofs.Common.{Ok, Err, refl}
use Rattle.std.specs.Option.{option_copied}
use Rattle.std.proofs.lemmas.Result.{err_from_is_err_and}
use Rattle.plural_documents.specs.Steps.{Then}
use Rattle.plural_exports.specs.GivenDocuments.{ReadsJson}
use Rattle.plural_exports.specs.GivenTexts.{ReadsGiven}
use Rattle.plural_exports.specs.PackedDocuments.{PacksDocument}
use Rattle.plural_exports.proofs.Steps.{of_second, passed_on, refused_first}
use Rattle.plural_exports.proofs.catalog_packing.packed.Goals as goal
use Rattle.serde_json.specs.View.{view}

pub returns-in_err-named : goal.returns-in_err-named
returns-in_err-named c =
    let r = c.from_residual.result in
    refused_first (λ catalog. catalog.items) (ReadsGiven c.args.locale.now)
    (λ named. Then (ReadsJson c.args.json.now) (PacksDocument named))
    c.in_err-named.field-0.0 r (passed_on _ _ (err_from_is_err_and r c.from_residual.ensures.1)) c.in_err-named.ensures

pub returns-in-Ok : goal.returns-in-Ok
returns-in-Ok c =
    let named = option_copied c.in_ok-named.named in
    let r = c.packed_document.result in
    of_second (λ catalog. catalog.items) (ReadsGiven c.args.locale.now)
    (λ other. Then (ReadsJson c.args.json.now) (PacksDocument other)) named r c.in_ok-named.ensures
    (of_second (λ catalog. catalog.items) (ReadsJson c.args.json.now) (PacksDocument named) (view c.in-Ok.document) r
    c.in-Ok.ensures c.packed_document.ensures)

pub returns-in-Err : goal.returns-in-Err
returns-in-Err c = (Ok (option_copied c.in_ok-named.named), c.in_ok-named.ensures, (Err c.in-Err.fault, c.in-Err.ensures, refl))
