use Rattle.std.proofs.Common.{◌+◌, arith, rules}
use Rattle.std.proofs.lemmas.List.{take_rest}
use Rattle.number_lines.proofs.PlainLemmas.{if_pointed, whole_line}
use Rattle.number_lines.proofs.plain.plain_line.Goals as goal

pub returns-in-10 : goal.returns-in-10
returns-in-10 c =
    let bytes = c.args.bytes.now in
    let whole = c.front_digits-number.result.1 in
    whole_line c.args.rules.now bytes _ whole c.front_digits-number.result.0 _ c.kept_choice_is_exact.ensures
    c.front_digits-number.ensures.digits c.front_digits-number.ensures.few (omega arith) (omega arith) (search rules)
    (take_rest bytes (whole + 1)) c.category_for_integer.ensures.first

pub returns-in-46 : goal.returns-in-46
returns-in-46 c =
    let bytes = c.args.bytes.now in
    let whole = c.front_digits-number.result.1 in
    if_pointed c.args.rules.now bytes _ whole c.front_digits-number.result.0 c.plain_fraction.result c.kept_choice_is_exact.ensures
    c.front_digits-number.ensures.digits c.front_digits-number.ensures.few (omega arith) (search rules) (take_rest bytes (whole + 1))
    c.plain_fraction.ensures
