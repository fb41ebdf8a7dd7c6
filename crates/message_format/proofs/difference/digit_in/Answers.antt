use Rattle.std.proofs.Common.{◌++◌, arith}
use Rattle.message_format.proofs.Columns.{one_digit, digit_at_column}
use Rattle.message_format.proofs.difference.digit_in.Goals as goal

pub overflow_cast-result : goal.overflow_cast-result
overflow_cast-result c =
    let v = c.number_from-digit.ensures in
    let d = one_digit c.number_from-digit.result.0 c.number_from-digit.result.1 _ v.value v.zeros v.below in
    omega (arith, d.1)

pub returns-clause-digit : goal.returns-clause-digit
returns-clause-digit c =
    let v = c.number_from-digit.ensures in
    let d = one_digit c.number_from-digit.result.0 c.number_from-digit.result.1 _ v.value v.zeros v.below in
    digit_at_column c.args.aligned.before (c.args.aligned.number.now.whole ++ c.args.aligned.number.now.fraction) c.args.column
    c.number_from-digit.result.0 c.if-column-aligned.false d.0

pub returns-clause-below : goal.returns-clause-below
returns-clause-below c =
    let v = c.number_from-digit.ensures in
    let d = one_digit c.number_from-digit.result.0 c.number_from-digit.result.1 _ v.value v.zeros v.below in
    d.1
