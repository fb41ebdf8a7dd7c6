use Rattle.std.proofs.Common.{refl, sym, inl, inr}
use Rattle.document_report.specs.DocumentPlaces.{at_key, locale_place_view}
use Rattle.document_report.specs.FoundInDocuments.{document_fault_at, nothing_found}
use Rattle.document_report.specs.declared.cause.Cause.TheVariants.{NotACategory}
use Rattle.document_report.proofs.Entries.{no_category}
use Rattle.document_report.proofs.FoundParts.{on_ok}
use Rattle.document_report.proofs.FoundTogether.{together-nothing}
use Rattle.document_report.proofs.keys.CategoryCheckMemberCheckFound.add.Goals as goal

pub returns-in-None : goal.returns-in-None
returns-in-None c =
    on_ok c.add_fault.result
    (λ added. (
      document_fault_at (at_key (locale_place_view c.args.self.now.place) c.args.key.now) NotACategory,
      inr (λ named. no_category c.args.key.now c.in-None.ensures named.0 named.1, refl),
      added,
    ))
    c.add_fault.ensures

pub returns-in-Some : goal.returns-in-Some
returns-in-Some c =
    (nothing_found, inl ((c.in-Some.field-0, (c.in-Some.ensures c.in-Some.field-0).0 refl), refl), sym (together-nothing c.args.found.now))
