use Rattle.std.proofs.Common.{◌+◌, arith, rules}
use Rattle.std.proofs.lemmas.List.{take_rest}
use Rattle.number_lines.proofs.PlainLemmas.{fraction_line}
use Rattle.number_lines.proofs.plain.plain_fraction.Goals as goal

pub returns : goal.returns
returns c =
    let shown = c.front_digits-f.result.1 in (
      c.from-operands.result,
      fraction_line c.args.bytes.now _ c.args.i shown c.front_digits-f.result.0 _ _ _ c.front_digits-f.ensures.digits
          c.front_digits-f.ensures.few (omega arith) (omega arith) c.trimmed-w.ensures (search rules)
          (take_rest c.args.bytes.now (shown + 1)) (search rules),
      c.category_for.ensures.first,
    )
