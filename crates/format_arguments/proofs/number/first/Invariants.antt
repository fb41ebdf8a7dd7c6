use Rattle.std.proofs.Common.{◌≡◌, find, drop}
use Rattle.format_arguments.specs.CountedArguments.{shows}
use Rattle.format_arguments.proofs.number.first.Given as goal

-- none so far shows so
abbrev pub invariant-loop-argument : goal.invariant-loop-argument
invariant-loop-argument l = find (shows l.sign l.singular) (drop l.argument-index l.plural) ≡ find (shows l.sign l.singular) l.plural
