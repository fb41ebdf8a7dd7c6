use Rattle.std.proofs.Common.{Bool, Option, Some, None, sym}
use Rattle.std.specs.Option.{ok_or, IfSome}
use Rattle.std.specs.Result.{IfOk}
use Rattle.message_format.proofs.plain.PlainChooser.chooses.Goals as goal

-- what holds of the value holds of it beside an error
kept : {E : Type 0} (o : Option Bool) (e : E) (P : Bool → Type 0) → IfSome o P → IfOk (ok_or o e) P
kept None e P h = tt
kept (Some b) e P h = h

pub returns-in-Exactly : goal.returns-in-Exactly
returns-in-Exactly c = rw (c.in-Exactly.is, c.ok_or.ensures.value, sym c.self.view_is) (kept c.same_value.result _ _ c.same_value.ensures.same)
