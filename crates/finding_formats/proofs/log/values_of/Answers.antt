use Rattle.std.proofs.Common.{[], ◌∷◌, ◌++◌, ap, map, refl, subst, ◌≡◌, ◌∙◌, false}
use Rattle.std.proofs.lemmas.List.{map-append}
use Rattle.serde_json.specs.View.{view}
use Rattle.finding_formats.proofs.LoopSteps.{one_more}
use Rattle.finding_formats.proofs.NoFloats.{list_has_float, one_more_without}
use Rattle.finding_formats.proofs.log.values_of.Goals as goal

pub loop-thing-preserved : goal.loop-thing-preserved
loop-thing-preserved g c =
    let things = c.args.things.now in
    let data_of = g.M.ValueMaker.data_of c.args.maker.now in
    let seen = g.M.ValueMaker.seen in
    let values = c.loop-thing.values.items in
    let value = c.in_ok-value.field-0 in
    let pushed = ap (map view) c.in_ok-push.ensures.items ∙ map-append view values (value ∷ []) in (
      one_more (λ left. map data_of (map seen left)) things c.loop-thing.thing-index c.thing-item.result
          (data_of (seen c.thing-item.result) ∷ [])
          (map view values) (map view c.push.new.self.items) (map data_of (map seen things)) c.loop-thing-test.true c.thing-item.is refl
          (pushed ∙ ap (λ made. map view values ++ made ∷ []) c.in_ok-value.ensures.value) c.loop-thing.invariant.0,
      ap list_has_float pushed ∙ one_more_without (map view values) (view value) c.loop-thing.invariant.1 c.in_ok-value.ensures.without,
    )
