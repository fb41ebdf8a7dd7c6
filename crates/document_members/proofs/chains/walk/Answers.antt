use Rattle.std.proofs.Common.{◌+◌, ◌≡◌, List, ℕ, None, [], ◌∷◌, ◌++◌, ap, sym, ◌∙◌, arith, Some, rules, is_some}
use Rattle.std.proofs.lemmas.List.Elements.{All-nil, All-push, All-same}
use Rattle.std.specs.Prelude.{option_map}
use Rattle.document_members.specs.Inner.Rows.{IsStop}
use Rattle.document_members.specs.ParentRows.{named_parent}
use Rattle.document_members.specs.ChainSteps.{short_next}
use Rattle.plural_fallback.specs.FirstKeys.{locale_at}
use Rattle.document_members.specs.declared.chains.Step.{Step}
use Rattle.document_members.specs.declared.chains.Stop.{Stop}
use Rattle.document_members.proofs.ChainLimits.{begins, goes_on}
use Rattle.document_members.proofs.ChainSteps.{comes_back, joined, last}
use Rattle.document_members.proofs.chains.walk.Goals as goal

abbrev locale_of : Step → List ℕ
locale_of step = step.locale.now

pub steps-init : goal.steps-init
steps-init c =
    let next = short_next (named_parent c.args.parents.now) in (
      omega arith,
      begins next c.args.locale.now,
      All-same (IsStop next c.args.locale.now) c.args.path.now.items [] c.requires.empty (All-nil (IsStop next c.args.locale.now)),
    )

pub returns-in_default-clause-steps : goal.returns-in_default-clause-steps
returns-in_default-clause-steps c =
    let next = short_next (named_parent c.args.parents.now) in
    let none : None ≡ next c.steps.current.now = ap (option_map locale_of) (sym c.in_default.is) ∙ c.in_ok-step.ensures in
    last next c.args.locale.now c.steps.steps c.steps.current.now c.steps.invariant.1 (sym none)

pub returns-in-Some-steps_of-clause-steps : goal.returns-in-Some-steps_of-clause-steps
returns-in-Some-steps_of-clause-steps c =
    let next = short_next (named_parent c.args.parents.now) in
    let here : locale_at next c.args.locale.now (c.steps.steps + 1) ≡ Some c.in-Some.step.locale.now =
    goes_on next c.args.locale.now c.steps.current.now c.steps.steps c.steps.invariant.1
    ∙ sym (ap (option_map locale_of) (sym c.in-Some.is) ∙ c.in_ok-step.ensures) in
    joined next c.args.locale.now c.in-Some.step.locale.now (c.steps.steps + 1) c.in-Some-steps_of.more here
    (c.in-Some-steps_of.ensures next c.requires.known)

pub returns-then-eq-clause-steps : goal.returns-then-eq-clause-steps
returns-then-eq-clause-steps c =
    let next = short_next (named_parent c.args.parents.now) in
    let same : c.in-Some.step.locale.now ≡ c.steps.current.now = search rules in
    let on : next c.steps.current.now ≡ Some c.steps.current.now =
    sym (ap (option_map locale_of) (sym c.in-Some.is) ∙ c.in_ok-step.ensures) ∙ ap (λ (locale : List ℕ). Some locale) same in
    let here : locale_at next c.args.locale.now (c.steps.steps + 1) ≡ Some c.steps.current.now =
    goes_on next c.args.locale.now c.steps.current.now c.steps.steps c.steps.invariant.1 ∙ on in
    let again : locale_at next c.steps.current.now 1 ≡ Some c.steps.current.now =
    goes_on next c.steps.current.now c.steps.current.now 0 (begins next c.steps.current.now) ∙ on in
    joined next c.args.locale.now c.steps.current.now (c.steps.steps + 1) 48 here
    (comes_back next c.steps.current.now 1 (omega arith) again 48 (omega arith))

pub returns-then-eq-2-clause-steps : goal.returns-then-eq-2-clause-steps
returns-then-eq-2-clause-steps c =
    let next = short_next (named_parent c.args.parents.now) in
    let same : c.in-Some.step.locale.now ≡ c.args.locale.now = search rules in
    let here : locale_at next c.args.locale.now (c.steps.steps + 1) ≡ Some c.args.locale.now =
    goes_on next c.args.locale.now c.steps.current.now c.steps.steps c.steps.invariant.1
    ∙ sym (ap (option_map locale_of) (sym c.in-Some.is) ∙ c.in_ok-step.ensures)
    ∙ ap (λ (locale : List ℕ). Some locale) same in
    comes_back next c.args.locale.now (c.steps.steps + 1) (omega arith) here 48 (omega arith)

pub steps-preserved-in-Continue-branch-3 : goal.steps-preserved-in-Continue-branch-3
steps-preserved-in-Continue-branch-3 c =
    let next = short_next (named_parent c.args.parents.now) in
    let stop : Stop =
    record { locale = c.in-Some.step.locale; place = c.in-Some-place.place; steps = c.steps.steps + 1 } in
    let here : locale_at next c.args.locale.now (c.steps.steps + 1) ≡ Some c.in-Some.step.locale.now =
    goes_on next c.args.locale.now c.steps.current.now c.steps.steps c.steps.invariant.1
    ∙ sym (ap (option_map locale_of) (sym c.in-Some.is) ∙ c.in_ok-step.ensures) in (
      omega (arith, c.steps-test.ensures),
      here,
      All-same (IsStop next c.args.locale.now) c.push.new.self.items (c.steps.path.items ++ stop ∷ []) c.in_ok-push.ensures.items
          (All-push (IsStop next c.args.locale.now) c.steps.path.items stop c.steps.invariant.2 here),
    )

pub steps-preserved : goal.steps-preserved
steps-preserved c =
    let next = short_next (named_parent c.args.parents.now) in (
      omega (arith, c.steps-test.ensures),
      goes_on next c.args.locale.now c.steps.current.now c.steps.steps c.steps.invariant.1
          ∙ sym (ap (option_map locale_of) (sym c.in-Some.is) ∙ c.in_ok-step.ensures),
      c.steps.invariant.2,
    )

pub returns-clause-steps : goal.returns-clause-steps
returns-clause-steps c = record { there = ap is_some c.steps.invariant.1; ends = λ few. absurd (omega (arith, c.steps-test.ensures)) }
