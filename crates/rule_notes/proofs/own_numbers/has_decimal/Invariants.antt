use Rattle.std.proofs.Common.{◌≡◌, ℕ, ◌<◌, false}
use Rattle.plural_operands.specs.Operands.{Operands}
use Rattle.rule_notes.specs.Inner.OwnNumbers.{is_own}
use Rattle.rule_notes.specs.LookedAtNumbers.{HasDecimal}
use Rattle.rule_notes.proofs.own_numbers.has_decimal.Given as goal

-- no decimal so far
abbrev pub invariant-loop-parts : goal.invariant-loop-parts
invariant-loop-parts l = (parts : ℕ) (o : Operands) → parts < l.parts → HasDecimal l.places parts o → is_own l.earlier l.rule o ≡ false
