use Rattle.std.proofs.Common.{[], subst}
use Rattle.plural_checker.specs.LanguageTexts.{SixTexts}
use Rattle.plural_checker.specs.TextChecks.{AreFindingsOf}
use Rattle.document_report.proofs.languages.add_language.Goals as goal

pub add_checked-requires : goal.add_checked-requires
add_checked-requires c =
    subst (λ (texts : SixTexts). AreFindingsOf texts (record { faults = []; numbers = c.in-Some.checked.numbers })) c.texts_of-texts.ensures
    c.in-Some.ensures.found
