use Rattle.std.proofs.Common.{◌≡◌, ◌++◌, length}
use Rattle.message_pattern.specs.PatternPrinting.{text_text, quoted_behind}
use Rattle.message_pattern.specs.Inner.PatternFold.{is_quoted}
use Rattle.message_pattern.proofs.print.print_text.Given as goal

-- behind the text so far, the rest prints what the whole does
abbrev pub invariant-loop-rest : goal.invariant-loop-rest
invariant-loop-rest l = record {
  quoted : quoted_behind l.context l.quoted l.rest ≡ quoted_behind l.context (is_quoted l.fn.spot) l.bytes;
  text : l.text.items ++ text_text l.context l.quoted l.rest ≡ l.initial.text.items ++ text_text l.context (is_quoted l.fn.spot) l.bytes;
}

abbrev pub decreases-loop-rest : goal.decreases-loop-rest
decreases-loop-rest l = length l.rest
