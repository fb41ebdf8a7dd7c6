use Rattle.std.proofs.Common.{List, IfOk, subst}
use Rattle.message_pattern.specs.declared.head.Formats.TheVariants.{Allowed}
use Rattle.message_pattern.specs.PatternParts.{Part, parts_view}
use Rattle.message_pattern.specs.PatternPrinting.{PrintsBackExactly}
use Rattle.message_pattern.proofs.PrintedFold.{ok_exactly}
use Rattle.message_pattern.proofs.styled.StyledPattern.to_text.Goals as goal

pub returns : goal.returns
returns c =
    subst (λ (l : List Part). IfOk c.print.result (λ text. PrintsBackExactly Allowed l text.items)) (cc)
    (ok_exactly Allowed (λ v. v.items) (parts_view c.deref.result.now) c.print.result c.print.ensures)
