use Rattle.rules_outline.proofs.OutlineServes.{part_serves}
use Rattle.rules_outline.proofs.outline.rules_inside.Goals as goal

pub returns-in-Ok : goal.returns-in-Ok
returns-in-Ok c =
    part_serves c.args.part c.args.locale.now c.args.text.now c.args.locales _ _ c.requires c.in_ok-document.ensures c.in-Ok.ensures
    c.in-Some.ensures
