use Rattle.std.proofs.Common.{ℕ, List, Some, ◌≡◌, ◌∙◌, ap, sym, arith}
use Rattle.std.specs.Option.{option_copied}
use Rattle.plural_fallback.specs.Chain.{next_of}
use Rattle.plural_fallback.specs.declared.first_key.TheConstants.{MOST_LOCALES}
use Rattle.plural_fallback.proofs.ChainSteps.{begins, advances, none_yet, ends, stays_long}
use Rattle.plural_fallback.proofs.first_key.find_first.Goals as goal

pub loop-steps-init : goal.loop-steps-init
loop-steps-init g c =
    let next = next_of (g.L.Locales.parent c.args.locales.now) in (
      omega arith,
      begins next c.args.locale.now ∙ ap (λ (locale : List ℕ). Some locale) (sym c.as_bytes-current.ensures.value),
      λ m below. absurd (omega arith),
    )

pub loop-steps-preserved : goal.loop-steps-preserved
loop-steps-preserved g c =
    let keys = g.L.Locales.keys c.args.locales.now c.args.part in
    let next = next_of (g.L.Locales.parent c.args.locales.now) in
    let locale = c.args.locale.now in
    let current = c.loop-steps.current.now in
    let n = c.loop-steps.steps in
    let before = c.loop-steps.invariant in (
      omega arith,
      advances keys next locale current n before.1 c.in-Some-next_locale.next.now
          (ap (option_copied {T = List ℕ}) (sym c.in-Some-next_locale.is) ∙ c.next_locale.ensures),
      none_yet keys next locale current n before.1 (ap (option_copied {T = List ℕ}) (sym c.in_default.is) ∙ c.find_key.ensures) before.2,
    )

pub returns-in_default-next_locale-clause-err : goal.returns-in_default-next_locale-clause-err
returns-in_default-next_locale-clause-err g c =
    let keys = g.L.Locales.keys c.args.locales.now c.args.part in
    let next = next_of (g.L.Locales.parent c.args.locales.now) in
    let before = c.loop-steps.invariant in
    ends keys next c.args.locale.now c.loop-steps.current.now c.loop-steps.steps before.1 MOST_LOCALES (λ (found : List ℕ). ⊥) (omega arith)
    (ap (option_copied {T = List ℕ}) (sym c.in_default.is) ∙ c.find_key.ensures)
    (ap (option_copied {T = List ℕ}) (sym c.in_default-next_locale.is) ∙ c.next_locale.ensures) before.2

pub returns : goal.returns
returns g c =
    let keys = g.L.Locales.keys c.args.locales.now c.args.part in
    let next = next_of (g.L.Locales.parent c.args.locales.now) in
    let before = c.loop-steps.invariant in
    let all : c.loop-steps.steps ≡ MOST_LOCALES = omega arith in
    record {
      ok = tt;
      err = stays_long keys next c.args.locale.now c.loop-steps.current.now c.loop-steps.steps before.1 MOST_LOCALES
          (λ (found : List ℕ). ⊥) all before.2;
    }
