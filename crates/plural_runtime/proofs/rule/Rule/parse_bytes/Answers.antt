use Rattle.std.proofs.Common.{◌≡◌, ◌∙◌, sym, ap, refl}
use Rattle.std.specs.Prelude.{Ok, Err, map}
use Rattle.plural_runtime.specs.PackedRelations.{relation_bytes}
use Rattle.plural_runtime.proofs.bytes.RuleFaults.{not_refused}
use Rattle.plural_runtime.proofs.bytes.RuleItems.{no_fault, relations_in_one}
use Rattle.plural_runtime.proofs.rule.Rule.parse_bytes.Goals as goal

pub lent-requires : goal.lent-requires
lent-requires c = c.if-is_rule.ensures.rule refl

pub fault_in-requires : goal.fault_in-requires
fault_in-requires c = c.if-is_rule.ensures.other refl

pub returns-then-is_rule-clause-accepted : goal.returns-then-is_rule-clause-accepted
returns-then-is_rule-clause-accepted c = λ relations h. ap Ok
    (sym (relations_in_one c.read_again.ensures c.lent.result c.args.bytes.now c.lent.ensures)
    ∙ relations_in_one c.read_again.ensures relations c.args.bytes.now h)

pub returns-then-is_rule-clause-refused : goal.returns-then-is_rule-clause-refused
returns-then-is_rule-clause-refused c = λ fault.
    let bytes = c.args.bytes.now in
    let items = map relation_bytes c.lent.result in
    let list = c.lent.ensures.packed in (
      (λ h. absurd cc),
      (λ h. absurd (not_refused bytes items (no_fault 0 c.lent.result)
          (λ others other. sym (c.read_again.ensures others bytes other) ∙ c.read_again.ensures items bytes list)
          (λ other faulty. c.no_fault.ensures items bytes other list faulty) fault h)),
    )

pub returns-else-is_rule-clause-accepted : goal.returns-else-is_rule-clause-accepted
returns-else-is_rule-clause-accepted c = λ relations h. absurd (c.if-is_rule.ensures.other refl relations h)

pub returns-else-is_rule-clause-refused : goal.returns-else-is_rule-clause-refused
returns-else-is_rule-clause-refused c = λ fault.
    let told = c.fault_in.ensures fault in
    ((λ h. let same : c.fault_in.result ≡ fault = cc in told.0 same), (λ h. ap Err (told.1 h)))
