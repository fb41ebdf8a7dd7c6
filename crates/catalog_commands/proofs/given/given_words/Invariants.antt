use Rattle.std.proofs.Common.{◌≡◌, ◌++◌, Some, drop, map}
use Rattle.catalog_commands.specs.GivenWords.{first_ungiven, given_of}
use Rattle.catalog_commands.specs.Inner.KeyedViews.{word_view}
use Rattle.catalog_commands.specs.Inner.WordViews.{words_view}
use Rattle.catalog_commands.proofs.given.given_words.Given as goal

-- What is given so far and what the remaining words give is all; the first word that gives nothing remains.
abbrev pub invariant-loop-word : goal.invariant-loop-word
invariant-loop-word l =
    (map Some (map word_view l.given.items) ++ map given_of (words_view (drop l.word-index l.words)) ≡ map given_of (words_view l.words))
    × (first_ungiven (words_view (drop l.word-index l.words)) ≡ first_ungiven (words_view l.words))
