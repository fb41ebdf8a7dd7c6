use Rattle.std.proofs.Common.{rules}
use Rattle.plural_documents.proofs.JsonTextLemmas.{value_there, value_refused}
use Rattle.plural_documents.proofs.json_text.json_value.Goals as goal

pub returns-in-Ok : goal.returns-in-Ok
returns-in-Ok c = value_there _ _ c.in-Ok.ensures.ok.0 c.in-Ok.ensures.ok.1

pub returns-else-is_memory : goal.returns-else-is_memory
returns-else-is_memory c = value_refused _ (c.in-Err.ensures.err (search (rules, c.if-is_memory.false, c.is_memory.ensures)))
