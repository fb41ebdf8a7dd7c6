use Rattle.std.proofs.Common.{ap, ◌∙◌}
use Rattle.std.specs.Prelude.{Ok}
use Rattle.icu_plurals.specs.ElementsJson.{unless_fault}
use Rattle.icu_plurals.specs.Elements.{each_by}
use Rattle.icu_plurals.specs.Inner.ElementsViews.{lent_value}
use Rattle.icu_plurals.specs.PackedElements.{packed_of}
use Rattle.icu_plurals.proofs.CheckedElements.{are_elements, same_elements}
use Rattle.icu_plurals.proofs.Encoded.{no_fault, no_other_fault}
use Rattle.icu_plurals.proofs.elements_json.packed.Goals as goal

pub owned-requires : goal.owned-requires
owned-requires c = are_elements c.read_again.ensures _ c.in-Ok.bytes.items c.in-Ok.ensures.ok

pub returns-in-Ok-clause-answers : goal.returns-in-Ok-clause-answers
returns-in-Ok-clause-answers c =
    let values = each_by lent_value c.args.elements.now in
    ap (unless_fault (packed_of values)) (no_fault values c.in-Ok.bytes.items c.in-Ok.ensures.ok)
    ∙ ap Ok (same_elements c.read_again.ensures (packed_of values) c.owned.result c.in-Ok.bytes.items c.in-Ok.ensures.ok c.owned.ensures)

pub returns-in-Err-Memory-clause-packable : goal.returns-in-Err-Memory-clause-packable
returns-in-Err-Memory-clause-packable c =
    λ _.
    let values = each_by lent_value c.args.elements.now in (
      packed_of values,
      ap (unless_fault (packed_of values)) (no_other_fault values
          (λ long. absurd (let is = c.in-Err-Memory.ensures.default_limit.1 long in cc))
          (λ high. absurd (let is = c.in-Err-Memory.ensures.start_limit.1 high in cc))),
    )
