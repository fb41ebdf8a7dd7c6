use Rattle.serde_json.specs.View.{view}
use Rattle.rules_outline.specs.declared.outline.KeptLocales.TheVariants.{All}
use Rattle.rules_outline.proofs.OutlineServes.{all_stay, first_found, part_serves}
use Rattle.rules_outline.proofs.outline.rules_of_part.Goals as goal

pub returns : goal.returns
returns c =
    part_serves c.args.part c.args.locale.now c.args.text.now All _ _ c.requires c.in_ok-document.ensures c.in_ok-key.ensures (
      all_stay (view c.in_ok-document.document) c.args.part c.args.locale.now,
      first_found (λ key. key.now) (view c.in_ok-document.document) c.args.part c.args.locale.now c.find_first.result
          c.find_first.ensures.ok
          c.find_first.ensures.err,
    )
