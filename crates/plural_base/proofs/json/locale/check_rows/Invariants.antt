use Rattle.std.proofs.Common.{Result}
use Rattle.std.specs.Prelude.{⊤}
use Rattle.plural_base.specs.declared.json.error.JsonError.{JsonError}
use Rattle.plural_base.specs.DocumentJson.{rows_meant}
use Rattle.plural_base.specs.Inner.JsonSteps.{Passes}
use Rattle.serde_json.specs.View.{members_view}
use Rattle.plural_base.proofs.json.locale.check_rows.Given as goal

-- what the remaining members give, all members give
abbrev pub invariant-loop-value : goal.invariant-loop-value
invariant-loop-value g l =
    let meant = g.T.FromJson.meant in
    (r : Result ⊤ JsonError) → Passes r (rows_meant meant (members_view l.value-iterator))
    → Passes r (rows_meant meant (members_view l.members.entries))
