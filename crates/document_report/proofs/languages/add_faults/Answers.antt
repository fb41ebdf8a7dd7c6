use Rattle.std.proofs.Common.{◌≡◌, ◌≢◌, ◌+◌, ◌∷◌, [], length, take, refl, ap, sym, ◌∙◌, rules}
use Rattle.std.proofs.lemmas.List.{length-append, take_all}
use Rattle.document_report.specs.DocumentReport.{faults_of}
use Rattle.document_report.specs.DocumentPlaces.{locale_place_view}
use Rattle.document_report.specs.FoundInDocuments.{findings_alone, together}
use Rattle.document_report.proofs.FoundParts.{on_ok}
use Rattle.document_report.proofs.FoundTogether.{together-nothing}
use Rattle.document_report.proofs.Told.{all_told, next_told, none_of, one_of, told_findings}
use Rattle.document_report.proofs.languages.add_faults.Goals as goal
use Rattle.document_report.proofs.languages.add_faults.Goals.{then-eq+in_ok-tell+in_ok-count, else-eq}

pub loop-fault-init : goal.loop-fault-init
loop-fault-init c = (refl, sym (together-nothing c.args.found.now))

pub loop-fault-preserved : goal.loop-fault-preserved
loop-fault-preserved c =
    let category = c.args.category in
    let faults = c.args.faults.now in
    let i = c.loop-fault.fault-index in
    let fault = c.fault-item.result in
    let mine = faults_of category (take i faults) in
    elim c.if-eq.branch [
      | then-eq+in_ok-tell+in_ok-count w ↦
          let same : fault.category ≡ category = search rules in
          let more = one_of category faults i fault c.loop-fault-test.true c.fault-item.is same in (
            w.count-is ∙ w.in_ok-count.ensures ∙ ap (λ n. n + 1) c.loop-fault.invariant.0
                ∙ sym (length-append mine (fault ∷ [])) ∙ ap length (sym more),
            w.found-is
                ∙ next_told (locale_place_view c.args.place) mine (faults_of category (take (i + 1) faults)) fault c.loop-fault.count
                c.args.found.now c.loop-fault.found w.tell.new.found more c.loop-fault.invariant.0 c.loop-fault.invariant.1
                w.in_ok-tell.ensures,
          )
      | else-eq w ↦
          let other : fault.category ≢ category = search rules in
          let none = none_of category faults i fault c.loop-fault-test.true c.fault-item.is other in (
            w.count-is ∙ c.loop-fault.invariant.0 ∙ ap length (sym none),
            w.found-is ∙ c.loop-fault.invariant.1
                ∙ ap (λ l. together c.args.found.now (findings_alone (told_findings (locale_place_view c.args.place) l))) (sym none),
          )
    ]

pub returns : goal.returns
returns c =
    let category = c.args.category in
    let all : take c.loop-fault.fault-index c.args.faults.now ≡ c.args.faults.now =
    take_all c.loop-fault.fault-index c.args.faults.now c.loop-fault-test.false in
    on_ok c.add_faults.result
    (λ counted. all_told (locale_place_view c.args.place) category (faults_of category c.args.faults.now) c.loop-fault.count
    c.args.found.now c.loop-fault.found c.add_rest.new.self c.add_faults.new.self
    (c.loop-fault.invariant.0 ∙ ap (λ l. length (faults_of category l)) all)
    (c.loop-fault.invariant.1
    ∙ ap (λ l. together c.args.found.now (findings_alone (told_findings (locale_place_view c.args.place) (faults_of category l)))) all)
    c.in_ok-add_rest.ensures counted)
    c.add_faults.ensures
