use Rattle.std.proofs.Common.{◌≡◌, ◌∙◌, ◌-◌, length, refl, sym}
use Rattle.plural_operands.proofs.numbers.OperandTexts.{left, scanned, scan_stops, scan_overflows_at}
use Rattle.plural_operands.proofs.numbers.OperandTexts.{no_digit_at_end, no_digit_first, no_large_word, no_word, word_found}
use Rattle.plural_operands.proofs.operands.text.read_digits.Goals as goal
use Rattle.plural_operands.proofs.operands.text.read_digits.Goals.{in_default, in-len1-up+then-not-is_ascii_digit}

pub returns-in_err-number-clause-none : goal.returns-in_err-number-clause-none
returns-in_err-number-clause-none c =
    rw c.from_residual.ensures (no_large_word c.args.text.now (
    sym c.loop-rest.invariant.same
    ∙ scan_overflows_at c.loop-rest.number c.loop-rest.rest.now c.in-len1-up.len_at_least
    c.if-not-is_ascii_digit.ensures.cases c.in_err-number.ensures.none
    ))

pub returns-then-count-eq0-clause-none : goal.returns-then-count-eq0-clause-none
returns-then-count-eq0-clause-none c =
    let rest = c.loop-rest.rest.now in
    let stopped : scanned c.loop-rest.number rest ≡ left c.loop-rest.number rest
    = elim c.if-rest-lt1.branch [
      | in_default w ↦ scan_stops c.loop-rest.number rest (no_digit_at_end rest w.in_default.len_below)
      | in-len1-up+then-not-is_ascii_digit w ↦
          scan_stops c.loop-rest.number rest (no_digit_first rest w.if-not-is_ascii_digit.ensures.value)
    ] in
    no_word c.args.text.now c.loop-rest.number rest (sym c.loop-rest.invariant.same ∙ stopped) c.if-count-eq0.true

pub returns-clause-found : goal.returns-clause-found
returns-clause-found c =
    let text = c.args.text.now in
    let rest = c.loop-rest.rest.now in
    let stopped : scanned c.loop-rest.number rest ≡ left c.loop-rest.number rest
    = elim c.if-rest-lt1.branch [
      | in_default w ↦ scan_stops c.loop-rest.number rest (no_digit_at_end rest w.in_default.len_below)
      | in-len1-up+then-not-is_ascii_digit w ↦
          scan_stops c.loop-rest.number rest (no_digit_first rest w.if-not-is_ascii_digit.ensures.value)
    ] in
    word_found text c.loop-rest.number (length text - length rest) rest (sym c.loop-rest.invariant.same ∙ stopped) refl c.if-count-eq0.false
