use Rattle.std.proofs.Common.{◌≡◌, length, take}
use Rattle.document_report.specs.DocumentReport.{faults_of}
use Rattle.document_report.specs.DocumentPlaces.{locale_place_view}
use Rattle.document_report.specs.FoundInDocuments.{findings_alone, together}
use Rattle.document_report.proofs.Told.{told_findings}
use Rattle.document_report.proofs.languages.add_faults.Given as goal

-- the faults of the text so far are counted, and the first of them are told
abbrev pub invariant-loop-fault : goal.invariant-loop-fault
invariant-loop-fault l =
    let mine = faults_of l.category (take l.fault-index l.faults) in
    (l.count ≡ length mine) × (l.found ≡ together l.initial.found (findings_alone (told_findings (locale_place_view l.place) mine)))
