use Rattle.std.proofs.Common.{Ok}
use Rattle.std.proofs.lemmas.Result.{err_from_is_err_and}
use Rattle.plural_exports.specs.GivenPatterns.{PacksParts, ReadsPatternText}
use Rattle.plural_exports.specs.Inner.Conversions.{pattern_pack_fault}
use Rattle.plural_exports.proofs.PatternsPacked.{parts_refused}
use Rattle.plural_exports.proofs.Steps.{handed_on, of_second, passed_on, refused_first}
use Rattle.plural_exports.proofs.packed_patterns.packed.Goals as goal

pub returns-in_err-pattern : goal.returns-in_err-pattern
returns-in_err-pattern c =
    let r = c.from_residual.result in
    refused_first (λ block. block.items) (ReadsPatternText c.args.pattern.now) PacksParts
    c.in_err-pattern.field-0.0 r (passed_on _ _ (err_from_is_err_and r c.from_residual.ensures.1)) c.in_err-pattern.ensures

pub returns-in_err-pack : goal.returns-in_err-pack
returns-in_err-pack c =
    let r = c.from_residual-in_err-pack.result in
    let parts = c.in_ok-pattern.pattern in
    let refused = c.in_err-pack.ensures in
    of_second (λ block. block.items) (ReadsPatternText c.args.pattern.now) PacksParts parts r c.in_ok-pattern.ensures
    (parts_refused parts c.in_err-pack.field-0.0 r
    (handed_on pattern_pack_fault _ _ (err_from_is_err_and r c.from_residual-in_err-pack.ensures.1))
    refused.count_limit refused.part refused.order refused.start_limit)

pub returns : goal.returns
returns c = (Ok c.in_ok-pattern.pattern, c.in_ok-pattern.ensures, c.in_ok-pack.ensures.ok)
