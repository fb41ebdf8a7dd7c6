use Rattle.std.proofs.Common.{◌≡◌, ℕ, inl, inr, ap, sym, subst, ◌∙◌, arith}
use Rattle.std.proofs.lemmas.Bool.{cases_lt}
use Rattle.plural_operands.specs.Operands.{Operands}
use Rattle.rule_notes.proofs.Decimals.{one_decimal}
use Rattle.rule_notes.specs.Inner.OwnNumbers.{is_own}
use Rattle.rule_notes.specs.LookedAtNumbers.{HasDecimal}
use Rattle.rule_notes.proofs.own_numbers.has_decimal.Goals as goal

pub loop-parts-preserved : goal.loop-parts-preserved
loop-parts-preserved c parts o below is =
    elim (cases_lt parts c.loop-parts.parts) [
      | inl before ↦ c.loop-parts.invariant parts o before is
      | inr after ↦
          let here : parts ≡ c.loop-parts.parts = omega arith in
          let there : HasDecimal c.args.places c.loop-parts.parts o = subst (λ (p : ℕ). HasDecimal c.args.places p o) here is in
          let same : o ≡ c.operands_of.result = one_decimal c.args.places c.loop-parts.parts o c.operands_of.result there c.operands_of.ensures in
          let not_own = c.if-is_own.false in
          let e = c.is_own.ensures in
          ap (λ (number : Operands). is_own c.args.earlier.now c.args.rule.now number) same ∙ sym e ∙ not_own
    ]
