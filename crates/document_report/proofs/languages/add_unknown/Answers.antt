use Rattle.std.proofs.Common.{subst}
use Rattle.plural_checker.specs.LanguageTexts.{SixTexts}
use Rattle.plural_checker.specs.TextChecks.{AreFindingsOf}
use Rattle.document_report.proofs.languages.add_unknown.Goals as goal

pub add_report-added-requires-clause-checked : goal.add_report-added-requires-clause-checked
add_report-added-requires-clause-checked c = subst (λ (texts : SixTexts). AreFindingsOf texts c.in-Ok.checked) c.requires c.in-Ok.ensures
