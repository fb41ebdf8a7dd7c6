use Rattle.std.proofs.Common.{Ok, ap}
use Rattle.std.proofs.lemmas.Result.{err_from_is_err_and}
use Rattle.std.specs.Result.{result_map_both}
use Rattle.plural_exports.specs.Inner.Conversions.{patterns_fault}
use Rattle.plural_exports.specs.PackedDocuments.{HasPatterns, PacksPatterns}
use Rattle.plural_exports.specs.declared.fault.Fault.TheVariants.{Messages}
use Rattle.plural_exports.proofs.CatalogsPacked.{patterns_refused}
use Rattle.plural_exports.proofs.Steps.{handed_on, of_second, refused_first}
use Rattle.plural_exports.proofs.catalog_packing.packed_messages.Goals as goal
use Rattle.serde_json.specs.View.{view}

pub returns-in_err-patterns : goal.returns-in_err-patterns
returns-in_err-patterns c =
    let r = c.from_residual.result in
    refused_first (λ catalog. catalog.items) (HasPatterns (view c.args.messages.now)) PacksPatterns
    (Messages c.in_err-patterns.field-0.0) r
    (handed_on (λ reason. Messages reason) _ _ (err_from_is_err_and r c.from_residual.ensures.1))
    (ap (result_map_both (λ found. found) Messages) c.in_err-patterns.ensures)

pub returns-in_err-pack_patterns : goal.returns-in_err-pack_patterns
returns-in_err-pack_patterns c =
    let r = c.from_residual-in_err-pack_patterns.result in
    let patterns = view c.in_ok-patterns.patterns.now in
    of_second (λ catalog. catalog.items) (HasPatterns (view c.args.messages.now)) PacksPatterns patterns r
    (ap (result_map_both (λ found. found) Messages) c.in_ok-patterns.ensures)
    (patterns_refused patterns c.in_err-pack_patterns.field-0.0 r
    (handed_on patterns_fault _ _ (err_from_is_err_and r c.from_residual-in_err-pack_patterns.ensures.1))
    c.in_err-pack_patterns.ensures.refused
    (λ none. (let e = c.in_err-pack_patterns.ensures.no_object.1 none in cc)))

pub returns : goal.returns
returns c = (
  Ok (view c.in_ok-patterns.patterns.now),
  ap (result_map_both (λ found. found) Messages) c.in_ok-patterns.ensures,
  c.in_ok-pack_patterns.ensures.packed,
)
