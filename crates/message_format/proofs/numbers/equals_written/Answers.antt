use Rattle.std.proofs.Common.{◌∙◌, ap, Err}
use Rattle.message_format.proofs.Equal.{none_equal, over_limit, compared}
use Rattle.message_format.proofs.numbers.equals_written.Goals as goal

pub returns-in-Ok : goal.returns-in-Ok
returns-in-Ok c =
    let w = c.in-Ok.ensures.number in
    compared c.texts_write_one_number.ensures.compact c.args.number.now _ c.args.written.now _ w.0 w.1 w.2 c.has_same_value.ensures

pub returns-in-Err-Syntax : goal.returns-in-Err-Syntax
returns-in-Err-Syntax c =
    none_equal _ _ (λ e. c.number_of_text.ensures.syntax (c.in-Err-Syntax.is ∙ ap Err c.in-Err-Syntax.field-0-is) e.0 e.1)

pub returns-in-Err-Limit : goal.returns-in-Err-Limit
returns-in-Err-Limit c =
    none_equal _ _ (over_limit c.texts_write_one_number.ensures.compact c.args.number.now c.args.written.now
    (c.number_of_text.ensures.limit (c.in-Err-Limit.is ∙ ap Err c.in-Err-Limit.field-0-is)))
