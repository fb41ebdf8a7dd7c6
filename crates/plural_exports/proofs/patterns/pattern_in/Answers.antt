use Rattle.std.proofs.lemmas.Result.{err_from_is_err_and}
use Rattle.plural_exports.specs.Inner.Conversions.{pattern_fault}
use Rattle.plural_exports.proofs.SaidPatterns.{pattern_refused}
use Rattle.plural_exports.proofs.Steps.{handed_on}
use Rattle.plural_exports.proofs.patterns.pattern_in.Goals as goal

pub returns-in_err-parse : goal.returns-in_err-parse
returns-in_err-parse c =
    pattern_refused c.args.text.now c.in_err-parse.field-0.0 c.from_residual.result
    (handed_on pattern_fault _ _ (err_from_is_err_and c.from_residual.result c.from_residual.ensures.1)) c.in_err-parse.ensures.only

pub returns : goal.returns
returns c = c.in_ok-parse.ensures.only
