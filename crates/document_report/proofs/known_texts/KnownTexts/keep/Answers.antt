use Rattle.std.proofs.Common.{◌≡◌, ◌≤◌, ◌∷◌, ◌++◌, ◌+◌, [], length, ap, arith}
use Rattle.std.proofs.lemmas.List.{length-append, length-drop}
use Rattle.plural_checker.specs.LanguageTexts.{SixTexts}
use Rattle.document_report.specs.Inner.CheckCalls.{texts_found}
use Rattle.document_report.specs.declared.known_texts.Language.{Language}
use Rattle.document_report.proofs.KeptTexts.{all_last, all_more, kept_behind}
use Rattle.document_report.proofs.known_texts.KnownTexts.keep.Goals as goal

pub invariant_of-self-then-len-gt-MOST : goal.invariant_of-self-then-len-gt-MOST
invariant_of-self-then-len-gt-MOST g c =
    let Holds = λ (e : SixTexts × g.row.F.Denot). g.F.FoundInTexts.IsFoundIn e.1 e.0 in
    let language : Language g.row.F.Denot = record { texts = c.args.texts; found = c.args.found } in
    let items = c.self.inside.languages.items in
    let all = all_more texts_found Holds items language c.self.invariant.0 c.requires in
    let long = length-append items (language ∷ []) in
    rw (c.pop_front.ensures.rest, c.in_ok-push_back.ensures.items) (
      all_last texts_found Holds 1 (items ++ language ∷ []) all,
      omega (arith, length-drop 1 (items ++ language ∷ []), long, c.self.invariant.1),
    )

pub invariant_of-self-else-len-gt-MOST : goal.invariant_of-self-else-len-gt-MOST
invariant_of-self-else-len-gt-MOST g c =
    let Holds = λ (e : SixTexts × g.row.F.Denot). g.F.FoundInTexts.IsFoundIn e.1 e.0 in
    let language : Language g.row.F.Denot = record { texts = c.args.texts; found = c.args.found } in
    let few : length c.push_back.new.self.items ≤ 64 = omega (arith, c.if-len-gt-MOST.false, c.len.ensures, c.push_back.new.self.ok.0) in (
      rw (c.in_ok-push_back.ensures.items) (all_more texts_found Holds c.self.inside.languages.items language c.self.invariant.0 c.requires),
      few,
    )

pub returns-then-len-gt-MOST-clause-ok : goal.returns-then-len-gt-MOST-clause-ok
returns-then-len-gt-MOST-clause-ok g c =
    let language : Language g.row.F.Denot = record { texts = c.args.texts; found = c.args.found } in
    let items = c.self.inside.languages.items in
    let pushed = c.in_ok-push_back.ensures.items in
    let full : length items ≡ 63 + 1 =
    omega (
      arith,
      c.if-len-gt-MOST.true,
      c.len.ensures,
      c.push_back.new.self.ok.0,
      ap length pushed,
      length-append items (language ∷ []),
      c.self.invariant.1,
    ) in
    let kept = kept_behind texts_found 63 items c.push_back.new.self.items c.pop_front.new.self.items language full pushed c.pop_front.ensures.rest in
    rw (← c.self.view_is) kept
