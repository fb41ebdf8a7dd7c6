use Rattle.std.proofs.Common.{Ok, Err, refl}
use Rattle.std.proofs.lemmas.Result.{err_from_is_err_and}
use Rattle.message_format.specs.FormatArguments.{named_values_view}
use Rattle.message_format.specs.Inner.FormatViews.{two_rules}
use Rattle.plural_exports.specs.FormattedPatterns.{IsPatternSaid}
use Rattle.plural_exports.specs.GivenArguments.{AreArguments}
use Rattle.plural_exports.specs.GivenPatterns.{ReadsPatternBlock}
use Rattle.plural_exports.specs.Inner.UnderRules.{IsSaidUnder}
use Rattle.plural_documents.specs.Steps.{Then}
use Rattle.plural_exports.proofs.Steps.{faulty, passed_on, written_second}
use Rattle.plural_exports.proofs.packed_patterns.write_said.Goals as goal

pub returns-in_err-pattern : goal.returns-in_err-pattern
returns-in_err-pattern c =
    let e = c.in_err-pattern.field-0.0 in
    faulty (IsSaidUnder (ReadsPatternBlock c.args.block.now) (two_rules c.args.rules.now) c.args.arguments.now) c.args.out.now e
    c.from_residual.result (passed_on _ _ (err_from_is_err_and c.from_residual.result c.from_residual.ensures.1))
    (Err e, c.in_err-pattern.ensures, refl)

pub returns-in_err-arguments : goal.returns-in_err-arguments
returns-in_err-arguments c =
    let e = c.in_err-arguments.field-0.0 in
    let residual = c.from_residual-in_err-arguments in
    faulty (IsSaidUnder (ReadsPatternBlock c.args.block.now) (two_rules c.args.rules.now) c.args.arguments.now) c.args.out.now e
    residual.result (passed_on _ _ (err_from_is_err_and residual.result residual.ensures.1))
    (Ok c.in_ok-pattern.pattern, c.in_ok-pattern.ensures, (Err e, c.in_err-arguments.ensures, refl))

pub returns : goal.returns
returns c =
    let rules = two_rules c.args.rules.now in
    let given = c.args.arguments.now in
    let pattern = c.in_ok-pattern.pattern in
    let arguments = named_values_view c.in_ok-arguments.arguments.items in
    written_second (ReadsPatternBlock c.args.block.now) (λ parts. Then (AreArguments given) (IsPatternSaid rules parts))
    pattern c.args.out.now c.write_text.new.out c.write_text.result c.in_ok-pattern.ensures
    (written_second (AreArguments given) (IsPatternSaid rules pattern)
    arguments c.args.out.now c.write_text.new.out c.write_text.result c.in_ok-arguments.ensures
    (rw c.as_slice.ensures.value at c.write_text.ensures))
