use Rattle.std.proofs.Common.{ℕ, List, ap, inl, inr, length, refl, subst}
use Rattle.std.proofs.lemmas.Result.{on_ok_weaker}
use Rattle.std.specs.Option.{option_copied}
use Rattle.plural_checker.specs.Findings.{fault_alone}
use Rattle.plural_checker.specs.Inner.TextReadings.{IsFoundInRead, IsRuleReading}
use Rattle.plural_checker.specs.declared.fault.Fault.{Fault}
use Rattle.plural_checker.specs.declared.fault.TextFault.TheVariants.{TooLong, Unread}
use Rattle.plural_checker.specs.declared.read_text.Reading.TheVariants.{Long, Refused, Rule}
use Rattle.plural_checker.proofs.Growth.{grows_by_fault}
use Rattle.plural_checker.proofs.TextsRead.{read_as_rule}
use Rattle.plural_checker.proofs.text_check.check_text.Goals as goal

pub returns-in-Long : goal.returns-in-Long
returns-in-Long c =
    let long : IsRuleReading c.args.text.now Long = subst (IsRuleReading c.args.text.now) c.in-Long.is c.reading.ensures in
    let fault : Fault = record { category = c.args.category; kind = TooLong (length c.as_str.result.now) } in
    on_ok_weaker c.add.result
    (λ is. (
      fault_alone fault,
      inl (
        long,
        ap (λ (bytes : List ℕ). let f : Fault = record { category = c.args.category; kind = TooLong (length bytes) } in fault_alone f)
            c.as_str.ensures,
      ),
      grows_by_fault c.args.report.now c.add.new.self fault is,
    ))
    c.add.ensures

pub returns-in-Refused : goal.returns-in-Refused
returns-in-Refused c =
    let refused : IsRuleReading c.args.text.now (Refused c.in-Refused.fault) = subst (IsRuleReading c.args.text.now) c.in-Refused.is c.reading.ensures in
    let kind = c.in-Refused.fault.kind in
    let byte = c.in-Refused.fault.byte in
    let fault : Fault = record { category = c.args.category; kind = Unread kind byte } in
    on_ok_weaker c.add-in-Refused.result
    (λ is. (
      fault_alone fault,
      inr (refused.0, inl (kind, byte, refused.1, refused.2, refl)),
      grows_by_fault c.args.report.now c.add-in-Refused.new.self fault is,
    ))
    c.add-in-Refused.ensures

pub returns-in-Rule : goal.returns-in-Rule
returns-in-Rule c =
    let rule = c.in-Rule.rule in
    let text = c.args.text.now in
    let reading : IsRuleReading text (Rule rule) = subst (IsRuleReading text) c.in-Rule.is c.reading.ensures in
    on_ok_weaker c.check_rule.result
    (λ adds. (
      adds.0,
      inr (
        reading.0,
        inr (
          rule,
          read_as_rule text rule reading,
          subst (λ (bytes : List ℕ). IsFoundInRead (option_copied c.args.rules) c.args.category bytes rule adds.0)
              c.as_str-in-Rule.ensures adds.1,
        ),
      ),
      adds.2,
    ))
    c.check_rule.ensures
