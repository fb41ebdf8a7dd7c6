use Rattle.std.proofs.Common.{List, [], arith, map, subst, sym}
use Rattle.std.proofs.lemmas.List.{append-nil, drop_all}
use Rattle.message_format.specs.FormatArguments.{named_values_view}
use Rattle.catalog_commands.specs.GivenWords.{AreArgumentsOf}
use Rattle.catalog_commands.specs.Inner.KeyedViews.{word_view}
use Rattle.catalog_commands.specs.declared.arguments.Word.{Word}
use Rattle.catalog_commands.proofs.arguments.arguments_of.Goals as goal

pub returns : goal.returns
returns c =
    let parts = c.args.pattern.now in
    let words = c.args.words.now in
    let found = named_values_view c.loop-word.arguments.items in
    let none = drop_all c.loop-word.word-index words (omega (arith, c.loop-word-test.false)) in
    subst (AreArgumentsOf parts (map word_view words)) (append-nil found)
    (c.loop-word.invariant [] (subst (λ (left : List Word). AreArgumentsOf parts (map word_view left) []) (sym none) (record {})))
