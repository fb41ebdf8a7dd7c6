use Rattle.std.proofs.Common.{drop, subst}
use Rattle.std.proofs.lemmas.List.{drop_all}
use Rattle.message_report.specs.FoundInMessages.{HasGrownInMessages}
use Rattle.message_report.specs.MessagesReport.{IsFoundInFile}
use Rattle.message_report.specs.declared.file.MessageFile.{MessageFile}
use Rattle.message_report.proofs.EachFound.{each_begins, each_ends, each_goes_on}
use Rattle.message_report.proofs.file.add_files.Goals as goal

pub loop-file-init : goal.loop-file-init
loop-file-init g c = each_begins (IsFoundInFile (g.S.RulesOfLocales.source c.args.source.now)) c.args.files.now c.args.found.now

pub loop-file-preserved : goal.loop-file-preserved
loop-file-preserved g c =
    let Is = IsFoundInFile (g.S.RulesOfLocales.source c.args.source.now) in
    each_goes_on Is c.args.files.now c.args.found.now c.loop-file.file-index c.file-item.result c.loop-file.found c.add_document.new.found
    c.loop-file-test.true c.loop-file.invariant
    (subst (λ (file : MessageFile). HasGrownInMessages (Is file) c.loop-file.found c.add_document.new.found) c.file-item.is
    c.in_ok-add_document.ensures)

pub returns : goal.returns
returns g c =
    each_ends (IsFoundInFile (g.S.RulesOfLocales.source c.args.source.now)) c.args.files.now
    (drop c.loop-file.file-index c.args.files.now) c.args.found.now c.loop-file.found
    (drop_all c.loop-file.file-index c.args.files.now c.loop-file-test.false) c.loop-file.invariant
