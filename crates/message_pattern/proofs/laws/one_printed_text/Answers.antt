use Rattle.message_pattern.proofs.PrintedFold.{one_text}
use Rattle.message_pattern.proofs.laws.one_printed_text.Goals as goal

pub returns : goal.returns
returns c = one_text
