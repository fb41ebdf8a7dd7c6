use Rattle.std.proofs.Common.{◌≡◌, ◌≤◌, ℕ, length, min}
use Rattle.gettext_plural.specs.PluralTokens.{behind_digits, number_with}
use Rattle.gettext_plural.proofs.lexer.digits.Given as goal

-- the digits so far are those of a number
abbrev pub invariant-loop-rest : goal.invariant-loop-rest
invariant-loop-rest l = record {
  value : (n : ℕ) × (l.value ≡ min n 4294967296) × (number_with n l.rest ≡ number_with l.start l.text);
  behind : behind_digits l.rest ≡ behind_digits l.text;
  shorter : length l.rest ≤ length l.text;
}

abbrev pub decreases-loop-rest : goal.decreases-loop-rest
decreases-loop-rest l = length l.rest
