use Rattle.std.proofs.Common.{Bool, sym, subst}
use Rattle.std.specs.Prelude.{MatchBool}
use Rattle.number_categories.specs.WholeNumbers.{HasWhole}
use Rattle.form_commands.specs.GettextLines.{SomeHas, tried_powers}
use Rattle.form_commands.proofs.GettextLemmas.{six_match}
use Rattle.form_commands.proofs.gettext.has_power.Goals as goal

pub returns : goal.returns
returns c =
    let Has = HasWhole c.args.rules.now c.args.category in
    let Some = SomeHas c.args.rules.now c.args.category tried_powers in
    subst (λ (b : Bool). MatchBool b Some (¬ Some)) (sym c.some_of.ensures)
    (six_match (Has 10000) (Has 100000) (Has 1000000) (Has 10000000) (Has 100000000) (Has 1000000000)
    c.has_whole-fourth.result c.has_whole-fifth.result c.has_whole-sixth.result c.has_whole-seventh.result
    c.has_whole-eighth.result c.has_whole-ninth.result c.has_whole-fourth.ensures c.has_whole-fifth.ensures c.has_whole-sixth.ensures
    c.has_whole-seventh.ensures c.has_whole-eighth.ensures c.has_whole-ninth.ensures)
