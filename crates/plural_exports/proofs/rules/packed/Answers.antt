use Rattle.std.proofs.lemmas.Result.{err_from_is_err_and}
use Rattle.icu_plurals.specs.FiveRules.{rules_of}
use Rattle.plural_exports.specs.Inner.Conversions.{rules_pack_fault}
use Rattle.plural_exports.proofs.Steps.{handed_on}
use Rattle.plural_exports.proofs.Texts.{pack_refused}
use Rattle.plural_exports.proofs.rules.packed.Goals as goal

pub returns-in_err-to_bytes : goal.returns-in_err-to_bytes
returns-in_err-to_bytes c =
    pack_refused (rules_of c.args.rules.now) c.in_err-to_bytes.field-0.0 c.from_residual.result
    (handed_on rules_pack_fault _ _ (err_from_is_err_and c.from_residual.result c.from_residual.ensures.1))
    c.in_err-to_bytes.ensures.start_limit
