use Rattle.std.proofs.Common.{◌≢◌, take, All}
use Rattle.plural_checker.specs.LanguageTexts.{six_texts}
use Rattle.document_report.proofs.known_texts.found_among.Given as goal

-- none of the languages so far has these texts
abbrev pub invariant-loop-language : goal.invariant-loop-language
invariant-loop-language g l = All (λ language. six_texts language.texts ≢ six_texts l.texts) (take l.language-index l.languages)
