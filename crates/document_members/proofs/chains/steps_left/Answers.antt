use Rattle.std.proofs.Common.{◌≡◌, ◌+◌, ◌≤◌, arith}
use Rattle.plural_fallback.specs.declared.first_key.TheConstants.{MOST_LOCALES}
use Rattle.document_members.proofs.ChainSteps.{goes_far, parted}
use Rattle.document_members.proofs.chains.steps_left.Goals as goal

pub returns-then-left-ge-MOST_LOCALES : goal.returns-then-left-ge-MOST_LOCALES
returns-then-left-ge-MOST_LOCALES c = λ next locale at steps here.
    let far : c.args.before + MOST_LOCALES ≤ c.args.steps = omega (arith, c.in_ok-left.ensures) in
    goes_far next locale at c.args.before c.args.steps far here steps

pub returns-then-steps-lt-MOST_LOCALES : goal.returns-then-steps-lt-MOST_LOCALES
returns-then-steps-lt-MOST_LOCALES c = λ next locale at steps here.
    let is : c.in_ok-left.left + c.args.before ≡ c.args.steps = omega (arith, c.in_ok-left.ensures) in
    parted next locale at c.args.before c.args.steps c.in_ok-left.left is c.if-steps-lt-MOST_LOCALES.true here steps
