use Rattle.std.proofs.Common.{◌≡◌, ◌++◌, List, ℕ}
use Rattle.std.specs.Fmt.{HasWritten, IsPlainFormatter}
use Rattle.plural_runtime.specs.RuleText.{relations_shown}
use Rattle.plural_runtime.proofs.texts.RuleTexts.{shown_from}
use Rattle.plural_runtime.proofs.display.write_relations.Given as goal

-- What is printed and the text of the remaining relations are the whole text.
abbrev pub invariant-loop-item : goal.invariant-loop-item
invariant-loop-item g l =
    (so_far : List ℕ) × (so_far ++ shown_from l.is_first l.item-iterator ≡ relations_shown l.rule)
    × (IsPlainFormatter l.initial.f → HasWritten g.W.Write.write_str_gives l.initial.f so_far l.f)
