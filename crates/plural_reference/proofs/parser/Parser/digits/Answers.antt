use Rattle.std.proofs.Common.{length, ap, arith}
use Rattle.plural_reference.proofs.samples.SampleParserSteps.{takes_digits}
use Rattle.plural_reference.proofs.samples.SampleSinks.{keeps_no_digits, keeps_more_digits}
use Rattle.plural_reference.proofs.parser.Parser.digits.Goals as goal

pub digits-init : goal.digits-init
digits-init g c = record { read = λ before h k. keeps_no_digits _ _ _ _ h k; shorter = omega arith }

pub digits-preserved : goal.digits-preserved
digits-preserved g c =
    let t = takes_digits _ _ _ c.in-Some.ensures in
    record {
      read = λ before h k. keeps_more_digits _ _ _ _ _ _ _ _ (c.digits.invariant.read before h k) t c.in_ok-push_number.ensures;
      shorter = omega (arith, ap length t.1, c.digits.invariant.shorter);
    }
