use Rattle.std.proofs.Common.{length, sym, arith}
use Rattle.std.proofs.lemmas.List.Sums.{position_or_len_is}
use Rattle.plural_checker.specs.Inner.SampleSteps.{is_marked}
use Rattle.plural_checker.proofs.sample_words.place_of.Goals as goal

pub returns-then-is_marked : goal.returns-then-is_marked
returns-then-is_marked c =
    sym (position_or_len_is (is_marked c.args.mark) c.args.bytes.now c.loop-index.index 0 (omega arith) c.loop-index.invariant
    (λ _. sym c.if-is_marked.ensures))

pub returns : goal.returns
returns c =
    sym (position_or_len_is (is_marked c.args.mark) c.args.bytes.now (length c.args.bytes.now) 0 (omega arith)
    (λ k below. c.loop-index.invariant k (omega arith)) (λ within. absurd (omega arith)))
