use Rattle.plural_checker.proofs.ListOrders.{no_other_order, order_of}
use Rattle.plural_checker.proofs.list_order.is_out_of_order.Goals as goal

pub returns-then-has_order : goal.returns-then-has_order
returns-then-has_order c = no_other_order c.args.text.now c.one_list_of_tokens.ensures c.if-has_order.ensures

pub returns : goal.returns
returns c = order_of c.args.text.now c.as_bytes.result.now c.is_read_whole.result c.as_bytes.ensures.value c.if-has_order.ensures c.is_read_whole.ensures
