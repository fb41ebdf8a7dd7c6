use Rattle.std.proofs.Common.{refl}
use Rattle.serde_json.specs.View.{view}
use Rattle.plural_fallback.specs.Chain.{next_of}
use Rattle.plural_fallback.specs.LocalesJson.{keys_under, parent_in, part_name}
use Rattle.plural_fallback.specs.declared.first_key.TheConstants.{MOST_LOCALES}
use Rattle.plural_exports.proofs.FoundKeys.{none_found}
use Rattle.plural_exports.proofs.locales.key_in.Goals as goal

pub returns-in-Err : goal.returns-in-Err
returns-in-Err c =
    let value = view c.args.value.now in (
      none_found (keys_under (part_name c.args.part) value) (next_of (parent_in value)) c.args.locale.now MOST_LOCALES
          c.in-Err.field-0 c.in-Err.ensures.err,
      refl,
    )
