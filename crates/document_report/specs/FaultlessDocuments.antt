-- A document without a fault is one that programs read (docs/JSON.md).
--     FaultlessDocumentsAreTaken      (`laws::faultless_documents_are_taken`)
use Rattle.std.specs.Prelude.{◌≡◌, ℕ, List, IsTrue, is_some, Ok}
use Rattle.serde_json.specs.Data.{Data}
use Rattle.icu_plurals.specs.DocumentJson.{Document, Rows, document_of_json, found}
use Rattle.document_report.specs.CheckedDocument.{document_formed}
use Rattle.document_report.specs.DocumentReport.{IsReportOf, has_locale}
use Rattle.plural_fallback.specs.declared.locales.Part.{Part}
use Rattle.plural_fallback.specs.declared.locales.Part.TheVariants.{Cardinal, Ordinal, Ranges}
use Rattle.document_report.specs.declared.report.Report.{Report}

-- each locale of the part is in the map
abbrev pub HasEach : {A : Type 0} → Part → Data → Rows A → Type 0
HasEach part value rows = (locale : List ℕ) → IsTrue (has_locale part value locale) → IsTrue (is_some (found locale rows))

-- Each locale of the rules has rules of their type, and each one of the ranges has ranges, and
-- cardinal rules for them.
pub record HasAll (value : Data) (maps : Document) : Type 0 where
  pub cardinal : HasEach Cardinal value maps.cardinal
  pub ordinal : HasEach Ordinal value maps.ordinal
  pub ranges : HasEach Ranges value maps.ranges
  pub ranged : HasEach Ranges value maps.cardinal

-- A document whose report counts no fault means maps, from which no locale is missing.
abbrev pub FaultlessDocumentsAreTaken : Type 0
FaultlessDocumentsAreTaken =
    (value : Data) (report : Report) → document_formed value ≡ Ok tt → IsReportOf value report → report.found.faults ≡ 0
    → (maps : Document) × (document_of_json value ≡ Ok maps) × HasAll value maps
