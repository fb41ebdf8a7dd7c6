use Rattle.std.proofs.Common.{refl}
use Rattle.number_lines.proofs.number.category_of_short_text.Goals as goal

pub returns-in-Err-Syntax : goal.returns-in-Err-Syntax
returns-in-Err-Syntax c = (c.utf8.text, c.in-Err-Syntax.ensures.syntax.0 (rw c.in-Err-Syntax.field-0-is refl))
