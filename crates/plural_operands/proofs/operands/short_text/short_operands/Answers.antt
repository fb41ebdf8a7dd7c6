use Rattle.plural_operands.proofs.numbers.ShortReading.{signed_if_read}
use Rattle.plural_operands.proofs.operands.short_text.short_operands.Goals as goal

pub returns : goal.returns
returns c = signed_if_read c.args.text.now c.behind_any_sign.result.now c.short_unsigned.result c.behind_any_sign.ensures c.short_unsigned.ensures
