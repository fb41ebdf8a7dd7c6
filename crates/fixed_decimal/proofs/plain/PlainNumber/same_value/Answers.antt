use Rattle.std.proofs.Common.{◌≡◌, ◌↔◌, ◌<◌, true, false, [], length, arith, refl, sym, ◌∙◌, subst}
use Rattle.std.specs.Bool.{IsTrue}
use Rattle.std.proofs.lemmas.Slice.Eq.{bytes_eq-Decides}
use Rattle.fixed_decimal.specs.PlainNumbers.{IsPlainInteger}
use Rattle.fixed_decimal.specs.SameValue.{EqualsWritten}
use Rattle.fixed_decimal.specs.Written.{CompactNumber}
use Rattle.fixed_decimal.specs.Inner.PlainSides.{plain_number}
use Rattle.fixed_decimal.proofs.PlainTexts.{integer, integer_split, is_none, is_some}
use Rattle.fixed_decimal.proofs.PlainValues.{at_sight}
use Rattle.fixed_decimal.proofs.plain.PlainNumber.same_value.Goals as goal
use Rattle.fixed_decimal.proofs.plain.PlainNumber.same_value.Goals.{then-not-is_empty-via-then-not-is_empty, then-not-is_empty-via-else-not-is_empty+then-not-is_shortest}

pub returns-then-not-is_empty-clause-integer : goal.returns-then-not-is_empty-clause-integer
returns-then-not-is_empty-clause-integer c =
    let split = c.split_digits.ensures in
    let none : IsPlainInteger c.args.written.now → false ≡ true = λ i.
    let r = integer_split c.args.written.now c.split_digits.result.0.now c.split_digits.result.1.now i split.digits split.end split.whole in
    elim c.then-not-is_empty.branch [
      | then-not-is_empty-via-then-not-is_empty w ↦
          let some : 0 < length c.split_digits.result.1.now
          = is_some (length c.split_digits.result.1.now) c.is_empty.result c.is_empty.ensures w.if-not-is_empty.true in
          absurd (omega (arith, r.0))
      | then-not-is_empty-via-else-not-is_empty+then-not-is_shortest w ↦ sym w.if-not-is_shortest.true ∙ w.is_shortest.ensures.1 r.1
    ]
    in
    (λ t. absurd (let e : false ≡ true = t in cc), none)

pub returns-then-eq-clause-integer : goal.returns-then-eq-clause-integer
returns-then-eq-clause-integer c =
    let short = is_none (length c.split_digits.result.1.now) c.is_empty.result c.is_empty.ensures c.if-not-is_empty.false in (
      λ t. (
        plain_number c.split_digits.result.0.now [],
        integer c.args.written.now c.split_digits.result.0.now c.split_digits.result.1.now c.split_digits.ensures.digits
            (c.is_shortest.ensures.0 c.if-not-is_shortest.false) c.split_digits.ensures.whole short,
        refl,
      ),
      λ i. refl,
    )

pub returns-then-eq-clause-same : goal.returns-then-eq-clause-same
returns-then-eq-clause-same c =
    let same = bytes_eq-Decides c.self.inside.whole.now c.split_digits.result.0.now in
    let short = is_none (length c.split_digits.result.1.now) c.is_empty.result c.is_empty.ensures c.if-not-is_empty.false in
    let shortest = c.is_shortest.ensures.0 c.if-not-is_shortest.false in
    subst (λ (x : CompactNumber). IsTrue c.are_zeros.result ↔ EqualsWritten x c.args.written.now) c.self.view_is
    (at_sight c.args.written.now c.self.inside.whole.now c.self.inside.fraction.now c.split_digits.result.0.now c.are_zeros.result c.self.invariant
    c.split_digits.ensures.digits shortest
    (integer c.args.written.now c.split_digits.result.0.now c.split_digits.result.1.now c.split_digits.ensures.digits shortest c.split_digits.ensures.whole short)
    (λ t. (same.0 (sym c.eq.ensures ∙ c.if-eq.true), sym c.are_zeros.ensures ∙ t), λ both. c.are_zeros.ensures ∙ both.1))

pub returns-else-eq-clause-integer : goal.returns-else-eq-clause-integer
returns-else-eq-clause-integer c =
    let short = is_none (length c.split_digits.result.1.now) c.is_empty.result c.is_empty.ensures c.if-not-is_empty.false in (
      λ t. (
        plain_number c.split_digits.result.0.now [],
        integer c.args.written.now c.split_digits.result.0.now c.split_digits.result.1.now c.split_digits.ensures.digits
            (c.is_shortest.ensures.0 c.if-not-is_shortest.false) c.split_digits.ensures.whole short,
        refl,
      ),
      λ i. refl,
    )

pub returns-else-eq-clause-same : goal.returns-else-eq-clause-same
returns-else-eq-clause-same c =
    let same = bytes_eq-Decides c.self.inside.whole.now c.split_digits.result.0.now in
    let short = is_none (length c.split_digits.result.1.now) c.is_empty.result c.is_empty.ensures c.if-not-is_empty.false in
    let shortest = c.is_shortest.ensures.0 c.if-not-is_shortest.false in
    subst (λ (x : CompactNumber). IsTrue c.eq.result ↔ EqualsWritten x c.args.written.now) c.self.view_is
    (at_sight c.args.written.now c.self.inside.whole.now c.self.inside.fraction.now c.split_digits.result.0.now c.eq.result c.self.invariant
    c.split_digits.ensures.digits shortest
    (integer c.args.written.now c.split_digits.result.0.now c.split_digits.result.1.now c.split_digits.ensures.digits shortest c.split_digits.ensures.whole short)
    (λ t. absurd (let e : c.eq.result ≡ false = c.if-eq.false in cc), λ both. c.eq.ensures ∙ same.1 both.0))
