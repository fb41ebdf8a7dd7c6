use Rattle.message_pattern.proofs.Answered.{all_read}
use Rattle.message_pattern.proofs.laws.every_text_is_read.Goals as goal

pub returns : goal.returns
returns c = λ formats text. all_read text
