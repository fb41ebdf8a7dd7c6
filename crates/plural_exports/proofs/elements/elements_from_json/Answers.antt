use Rattle.std.proofs.Common.{Ok, Err, refl, rules, subst}
use Rattle.icu_plurals.specs.PackedElements.{ElementsBytes, PackedElements}
use Rattle.plural_exports.proofs.elements.elements_from_json.Goals as goal

pub returns-in-Ok : goal.returns-in-Ok
returns-in-Ok c = (
  Ok c.as_bytes.result.now,
  (
    Ok c.in-Ok.elements,
    c.in-Ok.ensures,
    subst (λ (elements : PackedElements). ElementsBytes elements c.as_bytes.result.now) c.as_packed.ensures c.as_bytes.ensures,
  ),
  search rules,
)

pub returns-in-Err : goal.returns-in-Err
returns-in-Err c = (Err c.in-Err.fault, (Err c.in-Err.fault, c.in-Err.ensures, refl), search rules)
