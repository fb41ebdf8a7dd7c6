use Rattle.plural_checker.proofs.SampleLemmas.{next_of}
use Rattle.plural_checker.proofs.sample_words.SampleWords.next_word.Goals as goal

pub returns : goal.returns
returns c =
    next_of c.args.self.now c.self.inside.left c.in_ok-left.left c.cut_part.result.0 c.cut_part.result.1 c.start_of.result.now (cc) (cc)
    c.cut_part.ensures c.start_of.ensures
