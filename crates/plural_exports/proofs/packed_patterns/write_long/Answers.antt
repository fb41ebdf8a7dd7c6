use Rattle.std.proofs.Common.{[], w64, ◌∙◌, to_z-of_z}
use Rattle.std.proofs.lemmas.Result.{err_from_is_err_and}
use Rattle.message_format.specs.FormatArguments.{named_values_view}
use Rattle.message_format.specs.Inner.FormatViews.{two_rules}
use Rattle.plural_exports.specs.FormattedPatterns.{IsPatternSaid}
use Rattle.plural_exports.specs.Inner.Conversions.{format_fault}
use Rattle.plural_exports.proofs.SaidPatterns.{said_fault}
use Rattle.plural_exports.proofs.Steps.{faulty, handed_on}
use Rattle.plural_exports.proofs.packed_patterns.write_long.Goals as goal

pub returns-in_err-say_packed : goal.returns-in_err-say_packed
returns-in_err-say_packed c =
    let e = c.in_err-say_packed.field-0.0 in
    let rules = two_rules c.args.rules.now in
    let arguments = named_values_view c.args.arguments.now in
    faulty (IsPatternSaid rules c.args.pattern.now arguments) c.args.out.now (format_fault e)
    c.from_residual.result (handed_on format_fault _ _ (err_from_is_err_and c.from_residual.result c.from_residual.ensures.1))
    (said_fault rules c.args.pattern.now arguments e (c.in_err-say_packed.ensures [] c.new-text.ensures.items))

pub returns : goal.returns
returns c =
    let said = c.in_ok-say_packed.ensures [] c.new-text.ensures.items in
    let put = rw (c.as_slice.ensures.value ∙ said.1) at c.put.ensures in
    (said.0, said.2, (to_z-of_z {w = w64} (record { sfits = c.put.type_inv }) ∙ put.told, put.written))
