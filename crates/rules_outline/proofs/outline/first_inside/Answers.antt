use Rattle.std.proofs.Common.{◌≡◌, ℕ, List, true, ap, arith, rules, sym, ◌∙◌}
use Rattle.std.specs.Option.{option_copied}
use Rattle.serde_json.specs.View.{view}
use Rattle.rules_outline.specs.Inner.RulesOutline.{is_inside}
use Rattle.rules_outline.proofs.OutlineStays.{at_first, ends, finds, goes_on}
use Rattle.rules_outline.proofs.outline.first_inside.Goals as goal

pub loop-steps-init : goal.loop-steps-init
loop-steps-init c = rw c.as_bytes-current.ensures.value (at_first c.args.locales (view c.args.document.now) c.args.part c.args.locale.now)

pub returns-in-Some : goal.returns-in-Some
returns-in-Some c =
    let l = c.loop-steps in
    let inside : is_inside c.args.locales l.current.now ≡ true = search rules in
    finds c.args.locales (view c.args.document.now) c.args.part c.args.locale.now l.steps l.current.now l.invariant c.in-Some.key.now
    (omega arith) inside (sym c.find_key.ensures ∙ ap (option_copied {T = List ℕ}) c.in-Some.is)

pub returns-in_default-next_locale : goal.returns-in_default-next_locale
returns-in_default-next_locale c =
    let l = c.loop-steps in
    let inside : is_inside c.args.locales l.current.now ≡ true = search rules in
    ends c.args.locales (view c.args.document.now) c.args.part c.args.locale.now l.steps l.current.now l.invariant (omega arith) inside
    (sym c.find_key.ensures ∙ ap (option_copied {T = List ℕ}) c.in_default.is)
    (sym c.next_locale.ensures ∙ ap (option_copied {T = List ℕ}) c.in_default-next_locale.is)

pub loop-steps-preserved : goal.loop-steps-preserved
loop-steps-preserved c =
    let l = c.loop-steps in
    let inside : is_inside c.args.locales l.current.now ≡ true = search rules in
    goes_on c.args.locales (view c.args.document.now) c.args.part c.args.locale.now l.steps l.current.now l.invariant
    c.in-Some-next_locale.next.now
    inside (sym c.find_key.ensures ∙ ap (option_copied {T = List ℕ}) c.in_default.is)
    (sym c.next_locale.ensures ∙ ap (option_copied {T = List ℕ}) c.in-Some-next_locale.is)
