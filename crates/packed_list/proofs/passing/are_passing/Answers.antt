use Rattle.std.proofs.Common.{◌≡◌, ◌∙◌, ◌+◌, ◌-◌, ◌*◌, ◌∷◌, drop, arith, sym, ap, subst}
use Rattle.std.specs.List.{concat, list_all, slice_range}
use Rattle.packed_list.proofs.Accepted.{passed}
use Rattle.packed_list.proofs.OneList.{items_in_one}
use Rattle.packed_list.proofs.ToldItems.{EndsAt, Told, starts_behind, none_behind, next_behind, up_to_end, told_last, told_more}
use Rattle.packed_list.proofs.ToldItems.{told_starts, told_items, content_is, ends_last, ends_before, part_of, not_all}
use Rattle.packed_list.proofs.passing.are_passing.Goals as goal
use Rattle.packed_list.proofs.passing.are_passing.Goals.{then-start-end-via-then-start-end}
use Rattle.packed_list.proofs.passing.are_passing.Goals.{then-start-end-via-else-start-end+then-not-passes}

pub loop-place-init : goal.loop-place-init
loop-place-init g c =
    let bytes = c.args.bytes.now in
    let n = c.args.count in
    let content = c.part-content.result.now in
    let holds : content ≡ drop (2 * n) bytes = c.part-content.ensures ∙ up_to_end bytes (2 * n) in
    record {
      below = omega (arith, c.requires.some);
      holds = holds;
      told = told_last g.T.ItemTest.passing content (starts_behind bytes n (n - 1)) (none_behind bytes n);
      ends = ends_last bytes content n c.requires.count c.requires.some holds;
    }

pub returns-then-start-end-clause-fail : goal.returns-then-start-end-clause-fail
returns-then-start-end-clause-fail g c = λ _ items h.
    let bytes = c.args.bytes.now in
    let n = c.args.count in
    let place = c.loop-place.place in
    let end = c.loop-place.end in
    let is = c.number-start.ensures.value in
    let part = part_of bytes n place end c.requires.count (omega (arith, c.loop-place-test.true)) c.loop-place.invariant.below
    c.loop-place.invariant.ends items h in
    let same = content_is bytes c.part-content.result.now n c.requires.count c.loop-place.invariant.holds items h in
    elim c.then-start-end.branch [
      | then-start-end-via-then-start-end w ↦ absurd (omega (arith, is, part.below, w.if-start-end.true))
      | then-start-end-via-else-start-end+then-not-passes w ↦ not_all g.T.ItemTest.passing items place _ part.item
          (sym (w.if-not-passes.ensures ∙ ap g.T.ItemTest.passing (w.part.ensures
          ∙ ap (λ k. slice_range k c.number-start.result end) same ∙ ap (λ k. slice_range (concat items) k end) is)))
    ]

pub loop-place-preserved : goal.loop-place-preserved
loop-place-preserved g c =
    let bytes = c.args.bytes.now in
    let n = c.args.count in
    let place = c.loop-place.place in
    let is = c.number-start.ensures.value in
    record {
      below = omega (arith, c.loop-place.invariant.below);
      holds = c.loop-place.invariant.holds;
      told = told_more g.T.ItemTest.passing c.part-content.result.now (starts_behind bytes n place) (starts_behind bytes n (place - 1))
          c.number-start.result c.loop-place.end c.loop-place.invariant.told
          (omega (arith, c.if-start-end.false))
          (sym (c.if-not-passes.ensures ∙ ap g.T.ItemTest.passing c.part.ensures))
          (next_behind bytes n place (omega (arith, c.loop-place-test.true)) c.loop-place.invariant.below c.requires.header
          ∙ ap (λ k. k ∷ starts_behind bytes n place) (sym is));
      ends = subst (EndsAt bytes (place - 1)) (sym is)
          (ends_before bytes n place c.requires.count (omega (arith, c.loop-place-test.true)) c.loop-place.invariant.below);
    }

pub returns-clause-list : goal.returns-clause-list
returns-clause-list g c = λ _.
    let bytes = c.args.bytes.now in
    let n = c.args.count in
    let content = c.part-content.result.now in
    let zero : c.loop-place.place ≡ 0 = omega (arith, c.loop-place-test.false) in
    let told =
    subst (λ k. Told g.T.ItemTest.passing content (starts_behind bytes n k) c.loop-place.end) zero c.loop-place.invariant.told in
    passed bytes (λ i. omega (arith, c.type_inv.bytes i))
    (told_starts g.T.ItemTest.passing bytes content n c.loop-place.end c.requires.count c.requires.some c.requires.header
    c.loop-place.invariant.holds told)

pub returns-clause-pass : goal.returns-clause-pass
returns-clause-pass g c = λ pass.
    let bytes = c.args.bytes.now in
    let n = c.args.count in
    let content = c.part-content.result.now in
    let zero : c.loop-place.place ≡ 0 = omega (arith, c.loop-place-test.false) in
    let told =
    subst (λ k. Told g.T.ItemTest.passing content (starts_behind bytes n k) c.loop-place.end) zero c.loop-place.invariant.told in
    told_items g.T.ItemTest.passing bytes content n c.loop-place.end c.requires.count (omega (arith, c.requires.some, c.requires.header))
    c.loop-place.invariant.holds told
    ∙ sym (c.passes-2.ensures ∙ ap g.T.ItemTest.passing c.part-2.ensures) ∙ pass

pub returns-clause-fail : goal.returns-clause-fail
returns-clause-fail g c = λ fail items h.
    let bytes = c.args.bytes.now in
    let n = c.args.count in
    let content = c.part-content.result.now in
    let zero : c.loop-place.place ≡ 0 = omega (arith, c.loop-place-test.false) in
    let told =
    subst (λ k. Told g.T.ItemTest.passing content (starts_behind bytes n k) c.loop-place.end) zero c.loop-place.invariant.told in
    ap (list_all g.T.ItemTest.passing) (sym (items_in_one items bytes h.spelled))
    ∙ told_items g.T.ItemTest.passing bytes content n c.loop-place.end c.requires.count
    (omega (arith, c.requires.some, c.requires.header)) c.loop-place.invariant.holds told
    ∙ sym (c.passes-2.ensures ∙ ap g.T.ItemTest.passing c.part-2.ensures) ∙ fail
