use Rattle.std.proofs.Common.{◌≤◌, ℕ, List, drop, length}
use Rattle.message_format.specs.FormatMeaning.{PatternOutcome, MessageSays}
use Rattle.message_format.specs.FormatSteps.{both}
use Rattle.packed_format.proofs.saying.+say_from.Given as goal

abbrev pub decreases-say_from : goal.decreases-say_from
decreases-say_from g l = length (drop l.at l.pattern.now)

-- what the parts that are left come to, the message comes to
abbrev pub invariant-parts : goal.invariant-parts
invariant-parts g l = record {
  says : (before : List ℕ) → g.W.Sink.IsSaid l.initial.said before
      → (now : List ℕ) × g.W.Sink.IsSaid l.said now
      × ((outcome : PatternOutcome)
      → MessageSays (g.A.Arguments.arguments l.arguments) (both (g.R.TextRules.rules l.cardinal) (g.R.TextRules.rules l.ordinal)) l.hash
      now (drop l.next l.pattern) outcome
      → MessageSays (g.A.Arguments.arguments l.arguments) (both (g.R.TextRules.rules l.cardinal) (g.R.TextRules.rules l.ordinal)) l.fn.hash
      before (drop l.fn.at l.pattern) outcome);
  shorter : length (drop l.next l.pattern) ≤ length (drop l.fn.at l.pattern);
}

abbrev pub decreases-parts : goal.decreases-parts
decreases-parts g l = length (drop l.next l.pattern)
