use Rattle.std.proofs.Common.{◌≡◌, ◌++◌, List, ℕ}
use Rattle.std.specs.Fmt.{HasWritten, IsPlainFormatter}
use Rattle.plural_runtime.specs.RuleText.{ranges_shown}
use Rattle.plural_runtime.specs.Inner.RuleViews.{lent_relation}
use Rattle.plural_runtime.proofs.texts.RuleTexts.{ranges_from}
use Rattle.plural_runtime.proofs.display.write_ranges.Given as goal

-- What is printed and the text of the remaining ranges are the whole text.
abbrev pub invariant-loop-range : goal.invariant-loop-range
invariant-loop-range g l =
    (so_far : List ℕ) × (so_far ++ ranges_from l.is_first l.range-iterator ≡ ranges_shown (lent_relation l.relation).meaning.ranges)
    × (IsPlainFormatter l.initial.f → HasWritten g.W.Write.write_str_gives l.initial.f so_far l.f)
