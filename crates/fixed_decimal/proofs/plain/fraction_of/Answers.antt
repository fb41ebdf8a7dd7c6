use Rattle.std.proofs.Common.{◌<◌, length, arith, inl}
use Rattle.fixed_decimal.proofs.PlainTexts.{nothing, fraction_is, fraction_parts, is_none, is_some}
use Rattle.fixed_decimal.proofs.plain.fraction_of.Goals as goal
use Rattle.fixed_decimal.proofs.plain.fraction_of.Goals.{then-point-ne46-via-then-point-ne46, then-point-ne46-via-else-point-ne46+then-is_empty, then-point-ne46-via-else-point-ne46+else-is_empty+then-not-is_empty}

pub returns-in_default-clause-digits : goal.returns-in_default-clause-digits
returns-in_default-clause-digits c = λ k l. absurd (omega (arith, l, c.in_default.len_below))

pub returns-in_default-clause-form : goal.returns-in_default-clause-form
returns-in_default-clause-form c =
    let none = nothing c.args.text.now c.in_default.len_below in
    inl (none, none)

pub returns-then-point-ne46-clause-none : goal.returns-then-point-ne46-clause-none
returns-then-point-ne46-clause-none c f d form =
    let digits = c.split_digits.result.0.now in
    let behind = c.split_digits.result.1.now in
    let parts = fraction_parts c.args.text.now f digits behind d form c.in-len1-up.len_at_least
    c.split_digits.ensures.digits c.split_digits.ensures.end c.split_digits.ensures.whole in
    elim c.then-point-ne46.branch [
      | then-point-ne46-via-then-point-ne46 w ↦ absurd (w.if-point-ne46.true parts.0)
      | then-point-ne46-via-else-point-ne46+then-is_empty w ↦
          let none : length digits < 1 = is_none (length digits) w.is_empty.result w.is_empty.ensures w.if-is_empty.true in
          absurd (omega (arith, parts.1))
      | then-point-ne46-via-else-point-ne46+else-is_empty+then-not-is_empty w ↦
          let some : 0 < length behind
          = is_some (length behind) w.is_empty-else-is_empty.result w.is_empty-else-is_empty.ensures w.if-not-is_empty.true in
          absurd (omega (arith, parts.2))
    ]

pub returns-clause-form : goal.returns-clause-form
returns-clause-form c =
    let digits = c.split_digits.result.0.now in
    let behind = c.split_digits.result.1.now in
    fraction_is c.args.text.now digits behind c.in-len1-up.len_at_least c.if-point-ne46.false c.split_digits.ensures.whole
    (is_some (length digits) c.is_empty.result c.is_empty.ensures c.if-is_empty.false)
    (is_none (length behind) c.is_empty-else-is_empty.result c.is_empty-else-is_empty.ensures c.if-not-is_empty.false)
