use Rattle.std.proofs.Common.{◌≡◌, arith, inl, inr, sym, ap, subst, ◌∙◌, Some}
use Rattle.std.proofs.lemmas.Bool.{cases_lt}
use Rattle.std.specs.Prelude.{Err}
use Rattle.packed_pattern.specs.Inner.PartReading.{parts_in}
use Rattle.message_catalog.specs.MessageFaults.{value_at}
use Rattle.message_catalog.proofs.HeldMessages.{is_pattern_block}
use Rattle.message_catalog.proofs.MessagesRefused.{IsGood, first_bad_is, value_within}
use Rattle.message_catalog.proofs.checking.first_bad.Goals as goal

pub returns-in-Err-clause-bad : goal.returns-in-Err-clause-bad
returns-in-Err-clause-bad c = λ patterns.
    let pattern = patterns c.loop-index.index c.in-Some.value.now (sym c.in-Some.ensures) in
    let e = c.in-Err.ensures.accepted (parts_in c.in-Some.value.now) pattern in
    cc

pub returns-in-Err-clause-some : goal.returns-in-Err-clause-some
returns-in-Err-clause-some c =
    first_bad_is c.args.catalog.now c.loop-index.index c.in-Some.value.now c.in-Err.fault c.loop-index.invariant (sym c.in-Some.ensures)
    (λ fault. (
      (λ h. (c.in-Err.ensures.refused fault).0 (ap Err h)),
      (λ h. let e = (c.in-Err.ensures.refused fault).1 h in cc),
    ))
    (λ h. let e = c.in-Err.ensures.accepted (parts_in c.in-Some.value.now) h in cc)

pub loop-index-preserved : goal.loop-index-preserved
loop-index-preserved c = λ k value l there.
    let at = c.loop-index.index in
    elim (cases_lt k at) [
      | inl before ↦ c.loop-index.invariant k value before there
      | inr after ↦
          let place : k ≡ at = omega arith in
          let both : Some c.in-Some.value.now ≡ Some value = c.in-Some.ensures ∙ ap (value_at c.args.catalog.now) (sym place) ∙ there in
          let same : c.in-Some.value.now ≡ value = cc in
          let read = c.in_default-parse_bytes in
          let good : IsGood c.in-Some.value.now = (
            is_pattern_block c.read_again.ensures read.field-0 c.in-Some.value.now read.ensures.ok,
            (λ fault h. let e = (read.ensures.refused fault).1 h in cc),
          ) in
          subst IsGood same good
    ]

pub returns-clause-none : goal.returns-clause-none
returns-clause-none c = λ index value there.
    let l = value_within c.args.catalog.now index value there in
    (c.loop-index.invariant index value (omega (arith, l, c.len-index-end.ensures, c.loop-index-test.false)) there).0

pub returns-clause-good : goal.returns-clause-good
returns-clause-good c = λ index fault h.
    let l = value_within c.args.catalog.now index h.value h.there in
    (c.loop-index.invariant index h.value (omega (arith, l, c.len-index-end.ensures, c.loop-index-test.false)) h.there).1 fault h.bad
