use Rattle.std.proofs.Common.{length}
use Rattle.plural_checker.proofs.SampleLemmas.{Continues}
use Rattle.plural_checker.proofs.category_samples.next_sample.Given as goal

-- what is next of the words that are left is next of all
abbrev pub invariant-loop-word : goal.invariant-loop-word
invariant-loop-word l = Continues l.rules l.category l.words l.initial.words

abbrev pub decreases-loop-word : goal.decreases-loop-word
decreases-loop-word l = length l.words
