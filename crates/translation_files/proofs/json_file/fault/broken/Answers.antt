use Rattle.std.proofs.Common.{IfOk, sym, subst}
use Rattle.translation_files.specs.ReadFiles.{IsUnreadAt}
use Rattle.translation_files.specs.declared.code.NoticeCode.{NoticeCode}
use Rattle.translation_files.proofs.ReadLemmas.{code_of_bytes, code_of_text}
use Rattle.translation_files.proofs.json_file.fault.broken.Goals as goal

pub returns-in-Ok : goal.returns-in-Ok
returns-in-Ok c =
    subst (λ (code : NoticeCode). IfOk c.no_json.result (IsUnreadAt code))
    (sym (code_of_text c.args.bytes.now c.in-Ok.ensures.cases.1)) c.no_json.ensures

pub returns-in-Err : goal.returns-in-Err
returns-in-Err c =
    subst (λ (code : NoticeCode). IfOk c.no_text.result (IsUnreadAt code))
    (sym (code_of_bytes c.args.bytes.now c.in-Err.ensures.cases.0)) c.no_text.ensures
