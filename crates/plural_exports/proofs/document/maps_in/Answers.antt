use Rattle.std.proofs.lemmas.Result.{err_from_is_err_and}
use Rattle.plural_exports.specs.Inner.Conversions.{json_fault, json_text_fault}
use Rattle.plural_exports.proofs.LocaleMaps.{document_refused, held_of, maps_given, text_refused}
use Rattle.plural_exports.proofs.Steps.{handed_on}
use Rattle.plural_exports.proofs.document.maps_in.Goals as goal

pub returns-in_err-text : goal.returns-in_err-text
returns-in_err-text c =
    text_refused c.args.bytes.now c.args.locale.now c.in_err-text.field-0.0 c.from_residual.result
    (handed_on json_text_fault _ _ (err_from_is_err_and c.from_residual.result c.from_residual.ensures.1)) c.in_err-text.ensures

pub returns-in_err-provider_of_locale : goal.returns-in_err-provider_of_locale
returns-in_err-provider_of_locale c =
    let there = c.in_ok-text.ensures.1 in
    let held = held_of c.args.bytes.now c.in_ok-text.text there.0 c.in_ok-text.ensures.0 there.1 in
    let r = c.from_residual-in_err-provider_of_locale.result in
    document_refused c.args.bytes.now c.args.locale.now there.0 there.1 c.in_err-provider_of_locale.field-0.0 r
    (handed_on json_fault _ _ (err_from_is_err_and r c.from_residual-in_err-provider_of_locale.ensures.1))
    (c.in_err-provider_of_locale.ensures.answers there.0 held)

pub returns : goal.returns
returns c =
    let there = c.in_ok-text.ensures.1 in
    let held = held_of c.args.bytes.now c.in_ok-text.text there.0 c.in_ok-text.ensures.0 there.1 in
    maps_given c.args.bytes.now c.args.locale.now there.0 there.1 _ (c.in_ok-provider_of_locale.ensures.answers there.0 held)
