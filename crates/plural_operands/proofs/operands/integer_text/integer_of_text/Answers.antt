use Rattle.std.proofs.Common.{◌≡◌, ◌<◌, List, ℕ, arith, length, subst, sym}
use Rattle.std.proofs.lemmas.Bool.{eqb-false, eqb-true}
use Rattle.plural_operands.specs.Operands.{Operands, of_whole}
use Rattle.plural_operands.specs.Inner.ShortTexts.{HasFront, WritesShortSigned}
use Rattle.plural_operands.proofs.numbers.ShortReading.{integer_is_short, nothing_left}
use Rattle.plural_operands.proofs.numbers.ShortReading.{short_number, short_writes, short_limit, short_exponent, short_kept, short_within}
use Rattle.plural_operands.proofs.operands.integer_text.integer_of_text.Goals as goal

-- the operands of the integer are those of a short text
short : (text bytes rest : List ℕ) (n : ℕ) → bytes ≡ text → HasFront bytes n rest → length rest ≡ 0 → 0 < length text
    → WritesShortSigned text (of_whole n)
short text bytes rest n same front end some =
    let h : HasFront text n rest = subst (λ (l : List ℕ). HasFront l n rest) same front in
    integer_is_short text rest n h (nothing_left rest (omega (arith, end))) some

pub returns-clause-kept : goal.returns-clause-kept
returns-clause-kept c =
    let text : List ℕ = c.args.text.now in
    let o : Operands = of_whole c.short_front-number.result.0 in
    let some : 0 < length text = omega (arith, eqb-false (length text) 0 (sym c.if-is_empty.ensures)) in
    let end = eqb-true (length c.short_front-number.result.1.now) 0 (sym c.if-not-is_empty.ensures) in
    let h : WritesShortSigned text o = short text _ _ _ c.as_bytes.ensures.value c.short_front-number.ensures.front end some in
    (short_number text o h, short_writes text o h, short_limit text o h, short_exponent text o h, short_kept text o h)

pub returns-clause-limit : goal.returns-clause-limit
returns-clause-limit c =
    let text : List ℕ = c.args.text.now in
    let o : Operands = of_whole c.short_front-number.result.0 in
    let some : 0 < length text = omega (arith, eqb-false (length text) 0 (sym c.if-is_empty.ensures)) in
    let end = eqb-true (length c.short_front-number.result.1.now) 0 (sym c.if-not-is_empty.ensures) in
    let h : WritesShortSigned text o = short text _ _ _ c.as_bytes.ensures.value c.short_front-number.ensures.front end some in
    short_within text o c.texts_write_one_number.ensures.compact h
