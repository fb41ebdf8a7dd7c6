use Rattle.std.proofs.Common.{sym, ◌∙◌, true≢false}
use Rattle.std.proofs.lemmas.Result.{IfOk-weaker}
use Rattle.translation_files.proofs.json_file.no_json.Goals as goal

pub returns-else-is_memory : goal.returns-else-is_memory
returns-else-is_memory c =
    IfOk-weaker c.broken.result _ _
    (λ file is. (λ memory. true≢false (sym (c.is_memory.ensures.1 memory) ∙ c.if-is_memory.false), is)) c.broken.ensures
