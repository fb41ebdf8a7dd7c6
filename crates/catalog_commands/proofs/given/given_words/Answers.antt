use Rattle.catalog_commands.proofs.WordsGiven.{begin_behind}
use Rattle.catalog_commands.proofs.given.given_words.Goals as goal

pub returns-then-is_err-clause-refused : goal.returns-then-is_err-clause-refused
returns-then-is_err-clause-refused c =
    begin_behind c.args.words.now _ c.loop-word.word-index _ _ c.loop-word-test.true c.loop-word.invariant.0 c.in-Some.ensures
