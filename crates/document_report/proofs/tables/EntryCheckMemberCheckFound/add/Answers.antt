use Rattle.std.proofs.Common.{Some, None, refl, sym}
use Rattle.document_report.specs.DocumentPlaces.{at_key, locale_place_view}
use Rattle.document_report.specs.FoundInDocuments.{document_fault_at, nothing_found}
use Rattle.document_report.specs.declared.cause.Cause.TheVariants.{Entry}
use Rattle.document_report.proofs.FoundParts.{on_ok}
use Rattle.document_report.proofs.FoundTogether.{together-nothing}
use Rattle.document_report.proofs.tables.EntryCheckMemberCheckFound.add.Goals as goal

pub returns-in-Some : goal.returns-in-Some
returns-in-Some c =
    on_ok c.add_fault.result
    (λ added. (
      document_fault_at (at_key (locale_place_view c.args.self.now.place) c.args.key.now) (Entry c.in-Some.fault),
      (Some c.in-Some.fault, c.in-Some.ensures, refl),
      added,
    ))
    c.add_fault.ensures

pub returns-in-None : goal.returns-in-None
returns-in-None c = (nothing_found, (None, c.in-None.ensures, refl), sym (together-nothing c.args.found.now))
