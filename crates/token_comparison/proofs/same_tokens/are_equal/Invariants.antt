use Rattle.std.proofs.Common.{◌≡◌, length}
use Rattle.token_comparison.proofs.same_tokens.are_equal.Given as goal

-- the remaining tokens are equal exactly if all tokens were
abbrev pub invariant-loop-token : goal.invariant-loop-token
invariant-loop-token l =
    (l.tokens ≡ l.others → l.initial.tokens ≡ l.initial.others) × (l.initial.tokens ≡ l.initial.others → l.tokens ≡ l.others)

abbrev pub decreases-loop-token : goal.decreases-loop-token
decreases-loop-token l = length l.tokens
