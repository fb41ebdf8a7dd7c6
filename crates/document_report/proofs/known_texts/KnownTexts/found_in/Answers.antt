use Rattle.std.proofs.Common.{◌≢◌, List, Contains, subst}
use Rattle.plural_checker.specs.LanguageTexts.{six_texts, SixTexts}
use Rattle.document_report.specs.Inner.CheckCalls.{texts_found}
use Rattle.document_report.proofs.KeptTexts.{among_first, among_last, if_some, none_among, of_one}
use Rattle.document_report.proofs.known_texts.KnownTexts.found_in.Goals as goal

pub returns-in-Some-clause-found : goal.returns-in-Some-clause-found
returns-in-Some-clause-found g c =
    let slices = c.as_slices.result in
    let one : SixTexts × g.row.F.Denot = (six_texts c.args.texts.now, c.in-Some.found) in
    of_one (λ (e : SixTexts × g.row.F.Denot). g.F.FoundInTexts.IsFoundIn e.1 e.0) _ one c.self.invariant.0
    (among_last texts_found slices.0.now slices.1.now _ one c.as_slices.ensures.items c.in-Some.ensures.kept)

pub returns-in-Some-clause-kept : goal.returns-in-Some-clause-kept
returns-in-Some-clause-kept g c =
    let slices = c.as_slices.result in
    let one : SixTexts × g.row.F.Denot = (six_texts c.args.texts.now, c.in-Some.found) in
    subst (λ (l : List (SixTexts × g.row.F.Denot)). Contains l one) c.self.view_is
    (among_last texts_found slices.0.now slices.1.now _ one c.as_slices.ensures.items c.in-Some.ensures.kept)

pub returns-in-None-clause-found : goal.returns-in-None-clause-found
returns-in-None-clause-found g c =
    let slices = c.as_slices.result in
    let texts = six_texts c.args.texts.now in
    if_some c.found_among-in-None.result
    (λ found among.
    of_one (λ (e : SixTexts × g.row.F.Denot). g.F.FoundInTexts.IsFoundIn e.1 e.0) _ (texts, found) c.self.invariant.0
    (among_first texts_found slices.0.now slices.1.now _ (texts, found) c.as_slices.ensures.items among))
    c.found_among-in-None.ensures.kept

pub returns-in-None-clause-kept : goal.returns-in-None-clause-kept
returns-in-None-clause-kept g c =
    let slices = c.as_slices.result in
    let texts = six_texts c.args.texts.now in
    if_some c.found_among-in-None.result
    (λ found among.
    subst (λ (l : List (SixTexts × g.row.F.Denot)). Contains l (texts, found)) c.self.view_is
    (among_first texts_found slices.0.now slices.1.now _ (texts, found) c.as_slices.ensures.items among))
    c.found_among-in-None.ensures.kept

pub returns-in-None-clause-none : goal.returns-in-None-clause-none
returns-in-None-clause-none g c =
    let slices = c.as_slices.result in
    none_among texts_found (λ (e : SixTexts × g.row.F.Denot). e.0 ≢ six_texts c.args.texts.now) slices.0.now slices.1.now _ _
    c.as_slices.ensures.items c.self.view_is c.in-None.ensures.none c.found_among-in-None.result c.found_among-in-None.ensures.none
