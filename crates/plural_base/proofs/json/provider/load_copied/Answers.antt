use Rattle.std.proofs.Common.{option_map, sym, ap, ◌∙◌}
use Rattle.plural_base.specs.declared.ranges.PluralRanges.{PluralRanges}
use Rattle.plural_base.proofs.reading.Rows.{found-rows_by}
use Rattle.plural_base.proofs.json.provider.load_copied.Goals as goal

pub returns-in-Some : goal.returns-in-Some
returns-in-Some c =
    let itself = λ (ranges : PluralRanges). ranges in
    found-rows_by itself c.args.locale.now c.args.tables.now ∙ ap (option_map itself) (sym c.in-Some.ensures)

pub returns-in-None : goal.returns-in-None
returns-in-None c =
    let itself = λ (ranges : PluralRanges). ranges in
    found-rows_by itself c.args.locale.now c.args.tables.now ∙ ap (option_map itself) (sym c.in-None.ensures)
