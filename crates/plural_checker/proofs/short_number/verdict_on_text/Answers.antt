use Rattle.std.proofs.Common.{Some, Err, ap, inr, refl}
use Rattle.icu_plurals.specs.declared.DecimalError.TheVariants.{Syntax}
use Rattle.plural_checker.proofs.ShortChecks.{short_texts}
use Rattle.plural_checker.proofs.short_number.verdict_on_text.Goals as goal

pub returns-in-Some : goal.returns-in-Some
returns-in-Some c =
    c.verdict_by.ensures c.args.text.now
    (short_texts c.args.text.now c.in-Ok.operands (Some c.in-Some.operands) c.if-text-gt-MOST_BYTES.false c.in-Ok.ensures.kept
    c.in-Some.ensures)

pub returns-in-Err-Syntax : goal.returns-in-Err-Syntax
returns-in-Err-Syntax c = inr (Syntax, c.in-Err-Syntax.ensures.syntax.0 (ap Err c.in-Err-Syntax.field-0-is), refl)
