use Rattle.plural_checker.specs.FirstSamples.{is_gap}
use Rattle.plural_checker.proofs.SampleLemmas.{cut_first, uncut}
use Rattle.plural_checker.proofs.sample_words.cut_part.Goals as goal

pub returns-then-place-bytes : goal.returns-then-place-bytes
returns-then-place-bytes c = cut_first is_gap c.args.bytes.now c.place_of-place.result c.place_of-place.ensures c.if-place-bytes.true

pub returns : goal.returns
returns c = uncut is_gap c.args.bytes.now c.place_of-place.result c.place_of-place.ensures c.if-place-bytes.false
