use Rattle.std.proofs.Common.{rules}
use Rattle.document_tokens.proofs.json_number.signed_number.Goals.{then-not-is_negative+in_default, else-not-is_negative+in-Some+else-to_i64-lt0, else-not-is_negative+in-None-1}
use Rattle.document_tokens.proofs.json_number.signed_number.Goals as goal

pub returns : goal.returns
returns c = elim c.if-not-is_negative.branch [
  | then-not-is_negative+in_default w ↦ search (rules, w.if-not-is_negative.true)
  | else-not-is_negative+in-Some+else-to_i64-lt0 w ↦ search (rules, w.if-not-is_negative.false)
  | else-not-is_negative+in-None-1 w ↦ search (rules, w.if-not-is_negative.false)
]
