use Rattle.std.proofs.Common.{Some, option_map, sym, ap, ◌∙◌}
use Rattle.plural_base.specs.FiveRules.{rules_of}
use Rattle.plural_base.proofs.reading.Rows.{found-rows_by}
use Rattle.plural_base.proofs.json.provider.load.Goals as goal

pub returns-in-Some : goal.returns-in-Some
returns-in-Some c =
    found-rows_by rules_of c.args.locale.now c.args.rows.now
    ∙ ap (option_map rules_of) (sym c.in-Some.ensures)
    ∙ ap (λ rules. Some (rules_of rules)) (sym c.as_borrowed.ensures)

pub returns-in-None : goal.returns-in-None
returns-in-None c =
    found-rows_by rules_of c.args.locale.now c.args.rows.now ∙ ap (option_map rules_of) (sym c.in-None.ensures)
