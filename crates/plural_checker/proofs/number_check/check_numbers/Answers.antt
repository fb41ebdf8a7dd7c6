use Rattle.std.proofs.Common.{None, arith, below_more, subst}
use Rattle.std.specs.Option.{option_copied}
use Rattle.plural_checker.specs.Inner.ShortNumbers.{IsVerdictOn}
use Rattle.plural_checker.specs.NumberChecks.{IsCheckedText}
use Rattle.plural_checker.specs.SampleNumbers.{number_at}
use Rattle.plural_checker.proofs.number_check.check_numbers.Goals as goal

pub loop-index-preserved-then-is_right : goal.loop-index-preserved-then-is_right
loop-index-preserved-then-is_right c =
    let rules = option_copied c.args.rules in
    let category = c.args.category in
    below_more (λ k. IsCheckedText rules category (number_at c.args.numbers.now k) None) c.loop-index.index c.loop-index.invariant
    (subst (λ verdict. IsVerdictOn rules category (number_at c.args.numbers.now c.loop-index.index) verdict) c.if-is_right.ensures
    c.verdict_at-verdict.ensures)

pub loop-index-preserved : goal.loop-index-preserved
loop-index-preserved c =
    let rules = option_copied c.args.rules in
    let category = c.args.category in
    below_more (λ k. IsCheckedText rules category (number_at c.args.numbers.now k) None) c.loop-index.index c.loop-index.invariant
    (subst (λ text. IsCheckedText rules category text None) c.in_ok-text.ensures
    (subst (λ fault. IsCheckedText rules category c.in_ok-text.text fault) c.in_default.is c.in_ok-fault.ensures))

pub returns : goal.returns
returns c = λ k below. c.loop-index.invariant k (omega arith)
