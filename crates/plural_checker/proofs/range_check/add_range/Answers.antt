use Rattle.std.proofs.Common.{refl}
use Rattle.std.proofs.lemmas.Result.{on_ok_weaker}
use Rattle.plural_checker.specs.TextChecks.{sample_findings}
use Rattle.plural_checker.proofs.range_check.add_range.Goals as goal

pub returns-in-Ok : goal.returns-in-Ok
returns-in-Ok c =
    on_ok_weaker c.add_sample.result
    (λ grows. (
      sample_findings c.args.category c.args.sample_type c.in-Ok.fault c.in-Ok.count,
      (c.in-Ok.fault, c.in-Ok.count, c.in-Ok.ensures, refl),
      grows,
    ))
    c.add_sample.ensures
