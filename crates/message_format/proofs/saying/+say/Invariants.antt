use Rattle.std.proofs.Common.{◌≤◌, ℕ, List, length}
use Rattle.message_format.specs.FormatMeaning.{PatternOutcome, MessageSays}
use Rattle.message_format.specs.FormatSteps.{both}
use Rattle.message_format.proofs.saying.+say.Given as goal

abbrev pub decreases-say : goal.decreases-say
decreases-say g l = length (g.S.MessageSteps.parts l.parts)

-- what the parts that are left come to, the message comes to
abbrev pub invariant-parts : goal.invariant-parts
invariant-parts g l = record {
  says : (before : List ℕ) → g.W.Sink.IsSaid l.initial.said before
      → (now : List ℕ) × g.W.Sink.IsSaid l.said now
      × ((outcome : PatternOutcome)
      → MessageSays (g.A.Arguments.arguments l.arguments) (both (g.R.TextRules.rules l.cardinal) (g.R.TextRules.rules l.ordinal)) l.hash
      now (g.S.MessageSteps.parts l.left) outcome
      → MessageSays (g.A.Arguments.arguments l.arguments) (both (g.R.TextRules.rules l.cardinal) (g.R.TextRules.rules l.ordinal)) l.hash before
      (g.S.MessageSteps.parts l.fn.parts) outcome);
  shorter : length (g.S.MessageSteps.parts l.left) ≤ length (g.S.MessageSteps.parts l.fn.parts);
}

abbrev pub decreases-parts : goal.decreases-parts
decreases-parts g l = length (g.S.MessageSteps.parts l.left)
