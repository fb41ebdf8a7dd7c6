use Rattle.std.proofs.Common.{ap}
use Rattle.std.proofs.lemmas.Result.{err_from_is_err_and}
use Rattle.std.specs.Option.{option_copied}
use Rattle.std.specs.Result.{result_map_both}
use Rattle.catalog_commands.specs.LocaleMessages.{OneLocale}
use Rattle.plural_exports.specs.PackedDocuments.{HasMessages, PacksMessages}
use Rattle.plural_exports.specs.declared.fault.Fault.TheVariants.{Messages}
use Rattle.plural_exports.proofs.Steps.{handed_on, of_second, refused_first}
use Rattle.plural_exports.proofs.catalog_packing.packed_document.Goals as goal
use Rattle.serde_json.specs.View.{view}

pub returns-in_err-of_locale : goal.returns-in_err-of_locale
returns-in_err-of_locale c =
    let r = c.from_residual.result in
    refused_first (λ catalog. catalog.items) (HasMessages (option_copied c.args.named) (view c.args.document.now)) PacksMessages
    (Messages c.in_err-of_locale.field-0.0) r
    (handed_on (λ reason. Messages reason) _ _ (err_from_is_err_and r c.from_residual.ensures.1))
    (ap (result_map_both (λ (one : OneLocale). one.messages) Messages) c.in_err-of_locale.ensures)

pub returns : goal.returns
returns c =
    of_second (λ catalog. catalog.items) (HasMessages (option_copied c.args.named) (view c.args.document.now)) PacksMessages
    (view c.in_ok-of_locale.of_locale.messages.now) c.packed_messages.result
    (ap (result_map_both (λ (one : OneLocale). one.messages) Messages) c.in_ok-of_locale.ensures) c.packed_messages.ensures
