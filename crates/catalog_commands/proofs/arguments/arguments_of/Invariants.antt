use Rattle.std.proofs.Common.{drop, map}
use Rattle.message_format.specs.FormatArguments.{named_values_view}
use Rattle.catalog_commands.specs.Inner.KeyedViews.{word_view}
use Rattle.catalog_commands.proofs.WordArguments.{Completed}
use Rattle.catalog_commands.proofs.arguments.arguments_of.Given as goal

-- the arguments of the remaining words complete those so far
abbrev pub invariant-loop-word : goal.invariant-loop-word
invariant-loop-word l =
    Completed l.pattern (map word_view (drop l.word-index l.words)) (map word_view l.words) (named_values_view l.arguments.items)
