use Rattle.std.proofs.Common.{◌≡◌, Result, subst}
use Rattle.std.specs.Prelude.{OnOk}
use Rattle.serde_json.specs.Data.{Members}
use Rattle.plural_checker.specs.LanguageTexts.{SixTexts}
use Rattle.document_report.specs.DocumentPlaces.{LocalePlace, locale_place_view}
use Rattle.document_report.specs.DocumentReport.{IsFoundInEntry}
use Rattle.document_report.specs.FoundInDocuments.{Found, HasGrownInDocument, IsFoundInDocumentMembers}
use Rattle.document_report.proofs.tables.add_entries.Goals as goal

-- what was added under the same texts
under_texts : {A E : Type 0} (r : Result A E) (place : LocalePlace) (members : Members) (old new : Found) (texts same : SixTexts)
    → texts ≡ same → OnOk r (HasGrownInDocument (IsFoundInDocumentMembers (IsFoundInEntry texts place) members) old new)
    → OnOk r (HasGrownInDocument (IsFoundInDocumentMembers (IsFoundInEntry same place) members) old new)
under_texts r place members old new texts same is h =
    subst (λ (t : SixTexts). OnOk r (HasGrownInDocument (IsFoundInDocumentMembers (IsFoundInEntry t place) members) old new)) is h

pub returns : goal.returns
returns c =
    under_texts c.add_members_of.result (locale_place_view c.args.place) _ c.args.found.now c.add_members_of.new.found _ _
    c.texts_at-texts.ensures c.add_members_of.ensures
