use Rattle.std.proofs.Common.{[], map, refl, subst, sym}
use Rattle.std.proofs.lemmas.List.{append-nil}
use Rattle.std.proofs.lemmas.Result.{on_ok_weaker}
use Rattle.plural_checker.specs.LanguageTexts.{SixTexts}
use Rattle.rule_notes.specs.RuleNotes.{AreNotesOf}
use Rattle.document_report.specs.DocumentPlaces.{LocalePlace}
use Rattle.document_notes.specs.DocumentNotes.{on_rule}
use Rattle.document_notes.proofs.language_notes.add_language.Goals as goal

pub returns-in-Some : goal.returns-in-Some
returns-in-Some c = (
  [],
  ([], subst (λ (texts : SixTexts). AreNotesOf texts.five []) c.texts_of-texts.ensures c.in-Some.ensures.found, refl),
  sym (append-nil c.args.found.now),
)

pub returns : goal.returns
returns c =
    let place : LocalePlace = record { part = c.args.part; locale = c.args.locale.now } in
    let notes = c.in_ok-notes.notes in
    on_ok_weaker c.add_at.result
    (λ is. (
      map (on_rule place) notes,
      (notes, subst (λ (texts : SixTexts). AreNotesOf texts.five notes) c.texts_of-texts.ensures c.in_ok-notes.ensures, refl),
      is,
    ))
    c.add_at.ensures
