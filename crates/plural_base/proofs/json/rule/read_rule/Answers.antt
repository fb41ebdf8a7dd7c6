use Rattle.std.proofs.Common.{sym}
use Rattle.plural_base.proofs.choice.RuleRefusals.{text_refused}
use Rattle.plural_base.proofs.json.rule.read_rule.Goals as goal

pub returns-in-Err-clause-answers : goal.returns-in-Err-clause-answers
returns-in-Err-clause-answers c =
    rw c.refusal.ensures.value
    (text_refused c.args.category _ c.in-Some.text.now c.packed.result c.in-Err.fault (sym c.in-Some.ensures) c.in-Err.is
    c.packed.ensures.told)
