use Rattle.std.proofs.Common.{◌≡◌, ◌≤◌, length}
use Rattle.gettext_plural.specs.PluralTokens.{after_blanks}
use Rattle.gettext_plural.proofs.lexer.after_blanks.Given as goal

-- only blanks were passed
abbrev pub invariant-loop-rest : goal.invariant-loop-rest
invariant-loop-rest l = record { rest : after_blanks l.rest ≡ after_blanks l.text; shorter : length l.rest ≤ length l.text }

abbrev pub decreases-loop-rest : goal.decreases-loop-rest
decreases-loop-rest l = length l.rest
