use Rattle.std.proofs.Common.{option_map, refl, sym, ap, ◌∙◌}
use Rattle.serde_json.specs.View.{view}
use Rattle.serde_json.proofs.Views.{view-lookup}
use Rattle.plural_base.proofs.json.locale.keep_row.Goals as goal

pub returns-in-Some-clause-answers : goal.returns-in-Some-clause-answers
returns-in-Some-clause-answers g c =
    rw (sym (view-lookup c.args.locale.now c.args.members.now.entries) ∙ ap (option_map view) (sym c.in-Some.ensures.value))
    c.row_with.ensures.answers

pub returns-in-None-clause-answers : goal.returns-in-None-clause-answers
returns-in-None-clause-answers g c =
    rw (sym (view-lookup c.args.locale.now c.args.members.now.entries) ∙ ap (option_map view) (sym c.in-None.ensures.value), c.new.ensures)
    refl
