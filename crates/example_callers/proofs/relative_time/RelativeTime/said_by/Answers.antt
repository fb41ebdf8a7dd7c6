use Rattle.std.proofs.Common.{Some, None, arith, inl, inr, refl}
use Rattle.std.proofs.lemmas.Str.Pattern.{strip_prefix_char}
use Rattle.example_callers.proofs.relative_time.RelativeTime.said_by.Goals as goal

pub returns-in-Some : goal.returns-in-Some
returns-in-Some c
    = inl (strip_prefix_char 45 c.args.amount.now (Some c.in-Some.rest) c.in-Some.ensures.cases (omega arith), refl)

pub returns-in-None : goal.returns-in-None
returns-in-None c
    = inr (strip_prefix_char 45 c.args.amount.now None c.in-None.ensures.cases (omega arith), refl, refl)
