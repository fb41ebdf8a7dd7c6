use Rattle.std.proofs.Common.{Ok, Some, inl, inr, subst}
use Rattle.std.proofs.lemmas.Result.{IfOk-weaker}
use Rattle.icu_plurals.specs.PackedTree.{Packs}
use Rattle.plural_checker.specs.Inner.TextReadings.{IsRuleReading, IsShortRuleOf}
use Rattle.plural_checker.specs.declared.read_text.Reading.TheVariants.{Long, Refused, Rule}
use Rattle.plural_checker.proofs.TextsRead.{packed_from}
use Rattle.plural_checker.proofs.read_text.ReadText.packed.Goals as goal

pub returns-in-Long-clause-refused : goal.returns-in-Long-clause-refused
returns-in-Long-clause-refused c =
    let long : IsRuleReading c.args.self.now Long = subst (IsRuleReading c.args.self.now) c.in-Long.is c.reading.ensures in
    inl long

pub returns-in-Refused-clause-refused : goal.returns-in-Refused-clause-refused
returns-in-Refused-clause-refused c =
    let refused : IsRuleReading c.args.self.now (Refused c.in-Refused.field-0) = subst (IsRuleReading c.args.self.now) c.in-Refused.is c.reading.ensures in
    inr (c.in-Refused.field-0.kind, refused.1)

pub returns-in-Rule-clause-ok : goal.returns-in-Rule-clause-ok
returns-in-Rule-clause-ok c =
    let rule = c.in-Rule.rule in
    let reading : IsRuleReading c.args.self.now (Rule rule) = subst (IsRuleReading c.args.self.now) c.in-Rule.is c.reading.ensures in
    IfOk-weaker c.pack.result (λ relations. Packs rule.condition (Ok relations)) (λ relations. IsShortRuleOf (Some c.args.self.now) (Some relations))
    (λ relations packs. (reading.0, packed_from c.args.self.now rule relations reading packs)) c.pack.ensures.packs
