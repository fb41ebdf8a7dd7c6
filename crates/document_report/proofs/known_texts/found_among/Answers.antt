use Rattle.std.proofs.Common.{◌≡◌, ◌≢◌, List, All, Contains, map, sym, subst, ◌∙◌}
use Rattle.std.proofs.lemmas.Bool.Decides.{not_from_Decides}
use Rattle.std.proofs.lemmas.List.{take_all}
use Rattle.std.proofs.lemmas.List.Elements.{All-more}
use Rattle.plural_checker.specs.LanguageTexts.{six_texts}
use Rattle.document_report.specs.declared.known_texts.Language.{Language}
use Rattle.document_report.specs.Inner.CheckCalls.{texts_found}
use Rattle.document_report.proofs.KeptTexts.{texts_decide, Contains-map}
use Rattle.document_report.proofs.known_texts.found_among.Goals as goal

pub loop-language-preserved : goal.loop-language-preserved
loop-language-preserved g c =
    let known = c.language-item.result in
    let texts = c.args.texts.now in
    let Other = λ (l : Language g.row.F.Denot). six_texts l.texts ≢ six_texts texts in
    All-more Other c.args.languages.now c.loop-language.language-index known c.loop-language-test.true c.loop-language.invariant
    (subst Other c.language-item.is (not_from_Decides _ (texts_decide known.texts texts) (sym c.eq.ensures ∙ c.if-eq.false)))

pub returns-then-eq-clause-kept : goal.returns-then-eq-clause-kept
returns-then-eq-clause-kept g c =
    let known = c.language-item.result in
    let texts = c.args.texts.now in
    let languages = c.args.languages.now in
    let same : six_texts known.texts ≡ six_texts texts = (texts_decide known.texts texts).0 (sym c.eq.ensures ∙ c.if-eq.true) in
    let among : Contains languages known = (c.loop-language.language-index, c.loop-language-test.true, sym c.language-item.is) in
    subst (λ t. Contains (map texts_found languages) (t, known.found)) same (Contains-map texts_found languages known among)

pub returns-clause-none : goal.returns-clause-none
returns-clause-none g c =
    let Other = λ (l : Language g.row.F.Denot). six_texts l.texts ≢ six_texts c.args.texts.now in
    subst (λ (l : List (Language g.row.F.Denot)). All Other l)
    (take_all c.loop-language.language-index c.args.languages.now c.loop-language-test.false) c.loop-language.invariant
