use Rattle.std.proofs.Common.{◌≡◌, length}
use Rattle.gettext_plural.specs.PluralHeaders.{behind_first_word}
use Rattle.gettext_plural.proofs.header.behind_first.Given as goal

-- the word isn't in what was passed
abbrev pub invariant-loop-from : goal.invariant-loop-from
invariant-loop-from l = behind_first_word l.word l.from ≡ behind_first_word l.word l.text

abbrev pub decreases-loop-from : goal.decreases-loop-from
decreases-loop-from l = length l.from
