use Rattle.std.proofs.Common.{◌≡◌, ℕ, Bool, true, false, List, ap, inl, inr, refl, subst, ◌∙◌}
use Rattle.std.proofs.lemmas.Result.{on_ok_weaker}
use Rattle.std.specs.Prelude.{MatchBool}
use Rattle.icu_plurals.specs.Serializer.{rule_text}
use Rattle.plural_checker.specs.Findings.{no_findings, fault_alone}
use Rattle.token_comparison.specs.SameTokens.{HaveOtherTokens, HaveSameTokens}
use Rattle.plural_checker.specs.TextChecks.{IsOutOfOrder}
use Rattle.plural_checker.specs.declared.fault.Fault.{Fault}
use Rattle.plural_checker.specs.declared.fault.TextFault.TheVariants.{Order, Partly}
use Rattle.plural_checker.proofs.Growth.{grows_by_fault, grows_by_nothing}
use Rattle.plural_checker.proofs.text_check.check_reading.Goals as goal

-- what a test that was made says of the text
abbrev Tested : List ℕ → Bool → Type 0
Tested text other = MatchBool other (IsOutOfOrder text) (¬ (IsOutOfOrder text))

met : (text : List ℕ) (other : Bool) → other ≡ true → Tested text other → IsOutOfOrder text
met text other is told = subst (Tested text) is told

unmet : (text : List ℕ) (other : Bool) → other ≡ false → Tested text other → ¬ (IsOutOfOrder text)
unmet text other is told = subst (Tested text) is told

pub returns-then-has_tokens_of : goal.returns-then-has_tokens_of
returns-then-has_tokens_of c =
    let shown : c.as_str.result.now ≡ rule_text c.args.rule.now = c.as_str.ensures.value ∙ c.printed.view_is ∙ c.in_ok-printed.ensures in
    let same : HaveSameTokens c.args.text.now c.as_str.result.now = c.if-has_tokens_of.ensures in
    (no_findings, inl (subst (λ other. HaveSameTokens c.args.text.now other) shown same, refl), grows_by_nothing c.args.report.now)

pub returns-then-branch : goal.returns-then-branch
returns-then-branch c =
    let shown : c.as_str.result.now ≡ rule_text c.args.rule.now = c.as_str.ensures.value ∙ c.printed.view_is ∙ c.in_ok-printed.ensures in
    let other : HaveOtherTokens c.args.text.now c.as_str.result.now = c.if-has_tokens_of.ensures in
    let fault : Fault = record { category = c.args.category; kind = Order } in
    on_ok_weaker c.add.result
    (λ is. (
      fault_alone fault,
      inr (inl (subst (λ printed. HaveOtherTokens c.args.text.now printed) shown other, met c.args.text.now _ c.if-branch.true c.in_ok-is_out_of_order.ensures, refl)),
      grows_by_fault c.args.report.now c.add.new.self fault is,
    ))
    c.add.ensures

pub returns : goal.returns
returns c =
    let shown : c.as_str.result.now ≡ rule_text c.args.rule.now = c.as_str.ensures.value ∙ c.printed.view_is ∙ c.in_ok-printed.ensures in
    let other : HaveOtherTokens c.args.text.now c.as_str.result.now = c.if-has_tokens_of.ensures in
    let fault : Fault = record { category = c.args.category; kind = Partly c.in_ok-printed.printed } in
    on_ok_weaker c.add-2.result
    (λ is. (
      fault_alone fault,
      inr (inr (
        subst (λ printed. HaveOtherTokens c.args.text.now printed) shown other,
        unmet c.args.text.now _ c.if-branch.false c.in_ok-is_out_of_order.ensures,
        ap (λ (printed : List ℕ). let f : Fault = record { category = c.args.category; kind = Partly printed } in fault_alone f)
            c.in_ok-printed.ensures,
      )),
      grows_by_fault c.args.report.now c.add-2.new.self fault is,
    ))
    c.add-2.ensures
