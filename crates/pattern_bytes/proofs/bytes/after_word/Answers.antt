use Rattle.std.proofs.Common.{sym, ◌∙◌}
use Rattle.pattern_bytes.proofs.Runs.{no_rest}
use Rattle.pattern_bytes.proofs.bytes.after_word.Goals as goal

pub returns-in_default-clause-none : goal.returns-in_default-clause-none
returns-in_default-clause-none c =
    sym c.loop-byte.invariant.word ∙ no_rest _ _ _ c.loop-byte-test.true c.in_default.len_below
