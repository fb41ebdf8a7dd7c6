use Rattle.std.proofs.Common.{ℕ, List, Option}
use Rattle.std.specs.List.{All}
use Rattle.document_members.specs.ChainSteps.{AreKnown, HasSteps}
use Rattle.document_members.specs.Inner.Rows.{IsStop}
use Rattle.document_members.proofs.chains.KnownChains.learn_all.Given as goal

-- what was known and what is learned holds
abbrev pub invariant-loop-stop : goal.invariant-loop-stop
invariant-loop-stop l =
    (next : List ℕ → Option (List ℕ)) (locale : List ℕ)
    → HasSteps next locale l.steps → All (IsStop next locale) l.path → AreKnown next l.initial.self → AreKnown next l.self
