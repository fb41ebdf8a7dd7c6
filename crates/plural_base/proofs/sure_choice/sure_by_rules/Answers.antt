use Rattle.std.proofs.Common.{subst, sym}
use Rattle.std.proofs.lemmas.Result.{IfErr-weaker, IfOk-weaker}
use Rattle.plural_base.specs.SureChoice.{HasSureFault}
use Rattle.plural_base.proofs.choice.SureFaults.{refused_number}
use Rattle.plural_base.proofs.sure_choice.sure_by_rules.Goals as goal

pub returns-in-Ok-clause-exact : goal.returns-in-Ok-clause-exact
returns-in-Ok-clause-exact c =
    λ texts from.
    IfOk-weaker c.sure_or_outside.result _ _ (λ category sure. (
      c.in-Ok.number,
      c.in-Ok.ensures.number.0,
      λ conditions exact read is_exact.
          sure.1 texts conditions exact from
          (c.rules_have_every_reading.ensures.conditions texts conditions c.args.rules.now from read).0 sure.0 is_exact,
    )) c.sure_or_outside.ensures.exact

pub returns-in-Ok-clause-sure : goal.returns-in-Ok-clause-sure
returns-in-Ok-clause-sure c =
    λ texts from.
    IfOk-weaker c.sure_or_outside.result _ _
    (λ category sure. (c.args.rules.now, c.in-Ok.number, from, c.in-Ok.ensures.number, sure.0)) c.sure_or_outside.ensures.exact

pub returns-in-Ok-clause-refused : goal.returns-in-Ok-clause-refused
returns-in-Ok-clause-refused c =
    λ texts from.
    IfErr-weaker c.sure_or_outside.result _ _
    (λ error outside. subst (HasSureFault texts c.args.number.now) (sym outside.0)
    (c.args.rules.now, c.in-Ok.number, from, c.in-Ok.ensures.number, outside.1)) c.sure_or_outside.ensures.outside

pub returns-in-Err-clause-refused : goal.returns-in-Err-clause-refused
returns-in-Err-clause-refused c =
    λ texts from. (
      (c.args.rules.now, from),
      refused_number c.args.number.now c.in-Err.error c.in-Err.ensures.syntax c.in-Err.ensures.limit c.in-Err.ensures.inline,
    )
