use Rattle.std.proofs.Common.{[], w64, ◌∙◌, refl, to_z-of_z}
use Rattle.message_format.specs.FormatArguments.{named_values_view}
use Rattle.message_format.specs.Inner.FormatViews.{two_rules}
use Rattle.plural_exports.proofs.SaidPatterns.{said_fault}
use Rattle.plural_exports.proofs.packed_patterns.write_text.Goals as goal

pub returns-in-Ok : goal.returns-in-Ok
returns-in-Ok c =
    let said = c.in-Ok.ensures [] c.new-short.ensures in
    let put = rw (c.as_slice.ensures.value ∙ said.1) at c.put.ensures in
    (said.0, said.2, (to_z-of_z {w = w64} (record { sfits = c.put.type_inv }) ∙ put.told, put.written))

pub returns-in-Err : goal.returns-in-Err
returns-in-Err c =
    let rules = two_rules c.args.rules.now in
    let arguments = named_values_view c.args.arguments.now in
    (rw c.from.ensures (said_fault rules c.args.pattern.now arguments c.in-Err.fault (c.in-Err.ensures [] c.new-short.ensures)), refl)
