use Rattle.std.proofs.Common.{Err, refl}
use Rattle.std.proofs.lemmas.Result.{err_from_is_err_and}
use Rattle.plural_exports.specs.FormattedPatterns.{IsCatalogSaid, IsPackedFormatted}
use Rattle.plural_exports.specs.GivenPatterns.{FindsBlock}
use Rattle.plural_exports.proofs.Steps.{faulty, passed_on, written_second}
use Rattle.plural_exports.proofs.catalogs.write_said.Goals as goal

pub returns-in_err-block : goal.returns-in_err-block
returns-in_err-block c =
    let e = c.in_err-block.field-0.0 in
    faulty (IsCatalogSaid c.args.cardinal.now c.args.ordinal.now c.args.catalog.now c.args.key.now c.args.arguments.now) c.args.out.now e
    c.from_residual.result (passed_on _ _ (err_from_is_err_and c.from_residual.result c.from_residual.ensures.1))
    (Err e, c.in_err-block.ensures, refl)

pub returns : goal.returns
returns c =
    written_second (FindsBlock c.args.catalog.now c.args.key.now)
    (λ block. IsPackedFormatted c.args.cardinal.now c.args.ordinal.now block c.args.arguments.now)
    c.in_ok-block.block.now c.args.out.now c.write_formatted.new.out c.write_formatted.result c.in_ok-block.ensures c.write_formatted.ensures
