use Rattle.std.proofs.lemmas.Result.{on_ok_weaker}
use Rattle.std.specs.Option.{option_copied}
use Rattle.icu_plurals.specs.declared.PluralCategory.TheVariants.{Zero, One, Two, Few, Many, Other}
use Rattle.plural_checker.specs.Findings.{FindsBoth}
use Rattle.plural_checker.specs.Inner.TextReadings.{six}
use Rattle.plural_checker.specs.TextChecks.{IsFoundIn}
use Rattle.plural_checker.proofs.Growth.{adds_both}
use Rattle.plural_checker.proofs.check.add_all.Goals as goal

pub returns : goal.returns
returns c =
    let rules = option_copied c.args.rules in
    let texts = six c.args.five.now c.args.other.now in
    let in_zero = IsFoundIn rules Zero texts.five.zero in
    let in_one = IsFoundIn rules One texts.five.one in
    let in_two = IsFoundIn rules Two texts.five.two in
    let in_few = IsFoundIn rules Few texts.five.few in
    let in_many = IsFoundIn rules Many texts.five.many in
    let in_other = IsFoundIn rules Other texts.other in
    let from_many = FindsBoth in_many in_other in
    let from_few = FindsBoth in_few from_many in
    let from_two = FindsBoth in_two from_few in
    let from_one = FindsBoth in_one from_two in
    let end = c.check_if_there-6.new.report in
    on_ok_weaker c.check_if_there-6.result
    (λ last.
    let adds_many = adds_both in_many in_other c.check_if_there-4.new.report c.check_if_there-5.new.report end
    c.in_ok-check_if_there-5.ensures last in
    let adds_few = adds_both in_few from_many c.check_if_there-3.new.report c.check_if_there-4.new.report end
    c.in_ok-check_if_there-4.ensures adds_many in
    let adds_two = adds_both in_two from_few c.check_if_there-2.new.report c.check_if_there-3.new.report end
    c.in_ok-check_if_there-3.ensures adds_few in
    let adds_one = adds_both in_one from_two c.check_if_there.new.report c.check_if_there-2.new.report end
    c.in_ok-check_if_there-2.ensures adds_two in
    adds_both in_zero from_one c.args.report.now c.check_if_there.new.report end c.in_ok-check_if_there.ensures adds_one)
    c.check_if_there-6.ensures
