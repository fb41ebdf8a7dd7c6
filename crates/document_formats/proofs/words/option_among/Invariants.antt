use Rattle.std.proofs.Common.{◌≡◌, length}
use Rattle.document_formats.specs.CheckWords.{option_among}
use Rattle.document_formats.specs.Inner.WordViews.{check_words_view}
use Rattle.document_formats.proofs.words.option_among.Given as goal

-- no word so far begins as an option does
abbrev pub invariant-loop-rest : goal.invariant-loop-rest
invariant-loop-rest l = option_among (check_words_view l.words) ≡ option_among (check_words_view l.rest)

abbrev pub decreases-loop-rest : goal.decreases-loop-rest
decreases-loop-rest l = length l.rest
