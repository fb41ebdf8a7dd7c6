use Rattle.std.proofs.Common.{arith, ◌≡◌, ◌+◌, ◌-◌, ◌*◌, ◌≤◌, sym, ap, ◌∙◌, subst, inl, inr, length}
use Rattle.std.proofs.lemmas.Bool.{cases_lt}
use Rattle.packed_list.specs.ListBytes.{start_at}
use Rattle.packed_list.proofs.ListPlaces.{start_at-positive}
use Rattle.packed_list.proofs.starts.are_starts.Goals as goal
use Rattle.packed_list.proofs.starts.are_starts.Goals.{then-start-before-via-then-start-before}
use Rattle.packed_list.proofs.starts.are_starts.Goals.{then-start-before-via-else-start-before+then-bytes-count}

pub loop-index-init : goal.loop-index-init
loop-index-init c = record {
  last = λ k e. let z : k ≡ 0 = omega arith in sym (ap (start_at c.args.bytes.now) z);
  good = λ k h. absurd (omega arith);
}

pub returns-then-start-before-clause-bad : goal.returns-then-start-before-clause-bad
returns-then-start-before-clause-bad c =
    let bytes = c.args.bytes.now in
    let i = c.loop-index.index in
    let one : (i - 1) + 1 ≡ i = omega (arith, c.loop-index.auto.index) in
    let last = c.loop-index.invariant.last (i - 1) one in
    let here : start_at bytes ((i - 1) + 1) ≡ c.number-start.result =
    ap (start_at bytes) one ∙ start_at-positive bytes i (λ z. omega (arith, c.loop-index.auto.index))
    ∙ sym c.number-start.ensures.value in
    λ _. record {
      header = omega (arith, c.requires.count, c.requires.header);
      item = i - 1;
      is_item = omega (arith, one, c.loop-index-test.true, c.requires.count);
      is_bad = elim c.then-start-before.branch [
        | then-start-before-via-then-start-before w ↦ inl (omega (arith, here, last, w.if-start-before.true))
        | then-start-before-via-else-start-before+then-bytes-count w ↦ inr
            (omega (arith, here, c.requires.count, c.requires.header, w.if-bytes-count.true))
      ];
    }

pub loop-index-preserved : goal.loop-index-preserved
loop-index-preserved c =
    let bytes = c.args.bytes.now in
    let i = c.loop-index.index in
    let here : start_at bytes i ≡ c.number-start.result =
    start_at-positive bytes i (λ z. omega (arith, c.loop-index.auto.index)) ∙ sym c.number-start.ensures.value in
    record {
      last = λ k e. let z : k ≡ i = omega arith in sym (ap (start_at bytes) z ∙ here);
      good = λ k h. elim (cases_lt (k + 1) i) [
        | inl below ↦ c.loop-index.invariant.good k below
        | inr above ↦
            let e : k + 1 ≡ i = omega arith in
            let last = c.loop-index.invariant.last k e in
            let now : start_at bytes (k + 1) ≡ c.number-start.result = ap (start_at bytes) e ∙ here in
            (omega (arith, now, last, c.if-start-before.false), omega (arith, now, c.if-bytes-count.false, c.requires.header))
      ];
    }

pub returns-clause-good : goal.returns-clause-good
returns-clause-good c = λ _ k h.
    let g = c.loop-index.invariant.good k (omega (arith, h, c.requires.count, c.loop-index-test.false)) in
    (g.0, subst (λ n. 2 * n + start_at c.args.bytes.now (k + 1) ≤ length c.args.bytes.now) c.requires.count g.1)
