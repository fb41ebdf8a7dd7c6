use Rattle.std.proofs.Common.{drop}
use Rattle.message_report.specs.MessagesReport.{IsFoundInFile}
use Rattle.message_report.proofs.EachFound.{CompletesEach}
use Rattle.message_report.proofs.file.add_files.Given as goal

-- what is found in the remaining files completes what was found so far
abbrev pub invariant-loop-file : goal.invariant-loop-file
invariant-loop-file g l =
    CompletesEach (IsFoundInFile (g.S.RulesOfLocales.source l.source)) (drop l.file-index l.files) l.files l.found l.initial.found
