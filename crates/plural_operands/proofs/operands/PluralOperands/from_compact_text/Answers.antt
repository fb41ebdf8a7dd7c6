use Rattle.std.proofs.Common.{List, ℕ, subst}
use Rattle.plural_operands.specs.Operands.{Operands}
use Rattle.plural_operands.specs.Inner.ShortTexts.{WritesShortSigned}
use Rattle.fixed_decimal.specs.declared.error.DecimalError.TheVariants.{Syntax, Limit}
use Rattle.plural_operands.proofs.numbers.Refusals.{accepted}
use Rattle.plural_operands.proofs.numbers.ShortReading.{short_number, short_writes, short_limit, short_exponent, short_kept, short_within}
use Rattle.plural_operands.proofs.operands.PluralOperands.from_compact_text.Goals as goal

pub returns-in-Some-clause-kept : goal.returns-in-Some-clause-kept
returns-in-Some-clause-kept c =
    let text : List ℕ = c.args.text.now in
    let o : Operands = c.in-Some.operands in
    let h : WritesShortSigned text o = subst (λ (l : List ℕ). WritesShortSigned l o) c.as_bytes.ensures.value c.in-Some.ensures in
    (short_number text o h, short_writes text o h, short_limit text o h, short_exponent text o h, short_kept text o h)

pub returns-in-Some-clause-syntax : goal.returns-in-Some-clause-syntax
returns-in-Some-clause-syntax c =
    let text : List ℕ = c.args.text.now in
    let o : Operands = c.in-Some.operands in
    let h : WritesShortSigned text o = subst (λ (l : List ℕ). WritesShortSigned l o) c.as_bytes.ensures.value c.in-Some.ensures in
    accepted _ Syntax (λ none. none (short_number text o h) (short_writes text o h))

pub returns-in-Some-clause-limit : goal.returns-in-Some-clause-limit
returns-in-Some-clause-limit c =
    let text : List ℕ = c.args.text.now in
    let o : Operands = c.in-Some.operands in
    let h : WritesShortSigned text o = subst (λ (l : List ℕ). WritesShortSigned l o) c.as_bytes.ensures.value c.in-Some.ensures in
    accepted _ Limit (short_within text o c.texts_write_one_number.ensures.compact h)
