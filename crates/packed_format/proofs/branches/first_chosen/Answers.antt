use Rattle.std.proofs.Common.{◌≡◌, ◌+◌, ◌<◌, ℕ, List, drop, length, refl, sym, subst, inl, inr, arith, true, false, Option, Some, None}
use Rattle.message_pattern.specs.PatternParts.{Part, Branching, branches_of, selector_view}
use Rattle.message_format.specs.FormatParts.{IsFirstChosen}
use Rattle.packed_pattern.specs.Inner.PlacesAhead.{placed_view}
use Rattle.packed_format.proofs.BehindParts.{no_place}
use Rattle.packed_format.proofs.FirstNumbers.{left_from, first_behind, next_behind, further, fewer_left}
use Rattle.packed_format.proofs.PlacesRead.{within}
use Rattle.packed_format.proofs.Walked.{deeper_there, selector_there, none_there}
use Rattle.packed_format.proofs.branches.first_chosen.Goals as goal

pub loop-next-init : goal.loop-next-init
loop-next-init g c =
    let P = g.C.Chooser.IsChosen c.args.chooser.now in
    let depth = c.depth-depth.result in
    let next = c.next_number-next.ensures c.args.pattern.now c.requires.placed in
    record {
      passed = λ found k. first_behind P c.requires.numbers depth c.args.pattern.now c.args.index c.next_number-next.result found next k;
      behind = next_behind depth c.args.pattern.now c.args.index c.next_number-next.result next;
    }

pub returns-in_default-placed-clause-first : goal.returns-in_default-placed-clause-first
returns-in_default-placed-clause-first g c =
    let P = g.C.Chooser.IsChosen c.args.chooser.now in
    let ps = c.args.pattern.now in
    let depth = c.depth-depth.result in
    let none = no_place ps c.in-Some.at c.in_default-placed.ensures in
    let here = subst (λ (l : List Part). IsFirstChosen P (branches_of depth l) None) (sym none) refl in
    subst (λ (d : ℕ). IsFirstChosen P (branches_of d (drop (c.args.index + 1) ps)) None) c.depth-depth.ensures
    (c.loop-next.invariant.passed None (rw c.in-Some.is here))

pub returns-in_default-selector-clause-first : goal.returns-in_default-selector-clause-first
returns-in_default-selector-clause-first g c =
    let P = g.C.Chooser.IsChosen c.args.chooser.now in
    let ps = c.args.pattern.now in
    let depth = c.depth-depth.result in
    let none = none_there (placed_view c.in-Some-placed.placed) ps c.in-Some.at c.in-Some-placed.ensures c.depth.result c.depth.ensures
    depth c.if-depth.true c.in_default-selector.ensures in
    let here = subst (λ (bs : List Branching). IsFirstChosen P bs None) (sym none) refl in
    subst (λ (d : ℕ). IsFirstChosen P (branches_of d (drop (c.args.index + 1) ps)) None) c.depth-depth.ensures
    (c.loop-next.invariant.passed None (rw c.in-Some.is here))

pub overflow_add-result : goal.overflow_add-result
overflow_add-result g c =
    let there = within (placed_view c.in-Some-placed.placed) c.args.pattern.now c.in-Some.at c.in-Some-placed.ensures in
    omega (arith, there, c.requires.few)

pub returns-then-chosen-clause-first : goal.returns-then-chosen-clause-first
returns-then-chosen-clause-first g c =
    let P = g.C.Chooser.IsChosen c.args.chooser.now in
    let ps = c.args.pattern.now in
    let depth = c.depth-depth.result in
    let found = drop (c.in-Some.at + 1) ps in
    let there = selector_there (placed_view c.in-Some-placed.placed) ps c.in-Some.at c.in-Some-placed.ensures c.depth.result
    c.depth.ensures depth (selector_view c.in-Some-selector.selector) c.if-depth.true c.in-Some-selector.ensures in
    let here = subst (λ (bs : List Branching). IsFirstChosen P bs (Some found)) (sym there) (inl (c.in-Ok.ensures.0 c.if-chosen.true, refl)) in
    subst (λ (d : ℕ). IsFirstChosen P (branches_of d (drop (c.args.index + 1) ps)) (Some found)) c.depth-depth.ensures
    (c.loop-next.invariant.passed (Some found) (rw c.in-Some.is here))

pub next_number-next-requires-in-Some : goal.next_number-next-requires-in-Some
next_number-next-requires-in-Some g c =
    let there = within (placed_view c.in-Some-placed.placed) c.args.pattern.now c.in-Some.at c.in-Some-placed.ensures in
    omega (arith, there, c.requires.few)

pub loop-next-smaller-else-chosen : goal.loop-next-smaller-else-chosen
loop-next-smaller-else-chosen g c =
    let ps = c.args.pattern.now in
    let there = within (placed_view c.in-Some-placed.placed) ps c.in-Some.at c.in-Some-placed.ensures in
    let next = c.next_number-next-in-Some.ensures ps c.in-Some-placed.ensures in
    let less = fewer_left (length ps) c.in-Some.at c.next_number-next-in-Some.result there
    (next_behind c.depth-depth.result ps c.in-Some.at c.next_number-next-in-Some.result next) in
    subst (λ (n : Option ℕ). left_from (length ps) c.next_number-next-in-Some.result < left_from (length ps) n) (sym c.in-Some.is) less

pub loop-next-smaller : goal.loop-next-smaller
loop-next-smaller g c =
    let ps = c.args.pattern.now in
    let there = within (placed_view c.in-Some-placed.placed) ps c.in-Some.at c.in-Some-placed.ensures in
    let next = c.next_number-next-in-Some.ensures ps c.in-Some-placed.ensures in
    let less = fewer_left (length ps) c.in-Some.at c.next_number-next-in-Some.result there
    (next_behind c.depth-depth.result ps c.in-Some.at c.next_number-next-in-Some.result next) in
    subst (λ (n : Option ℕ). left_from (length ps) c.next_number-next-in-Some.result < left_from (length ps) n) (sym c.in-Some.is) less

pub loop-next-preserved-else-chosen : goal.loop-next-preserved-else-chosen
loop-next-preserved-else-chosen g c =
    let P = g.C.Chooser.IsChosen c.args.chooser.now in
    let ps = c.args.pattern.now in
    let depth = c.depth-depth.result in
    let at = c.in-Some.at in
    let placed = (placed_view c.in-Some-placed.placed) in
    let next = c.next_number-next-in-Some.ensures ps c.in-Some-placed.ensures in
    let passed : (found : Option (List Part)) → IsFirstChosen P (branches_of depth (drop (at + 1) ps)) found
    → IsFirstChosen P (branches_of depth (drop at ps)) found = λ found k.
    let there = selector_there placed ps at c.in-Some-placed.ensures c.depth.result c.depth.ensures depth
    (selector_view c.in-Some-selector.selector) c.if-depth.true c.in-Some-selector.ensures in
    let other : P (selector_view c.in-Some-selector.selector) → ⊥ = λ e.
    let yes : c.in-Ok.chosen ≡ true = c.in-Ok.ensures.1 e in
    let not : c.in-Ok.chosen ≡ false = c.if-chosen.false in
    cc in
    subst (λ (bs : List Branching). IsFirstChosen P bs found) (sym there) (inr (other, k))
    in
    let behind : c.args.index < at = rw c.in-Some.is at c.loop-next.invariant.behind in
    record {
      passed = λ found k. c.loop-next.invariant.passed found
          (rw c.in-Some.is (passed found (first_behind P c.requires.numbers depth ps at c.next_number-next-in-Some.result found next k)));
      behind = further c.args.index at c.next_number-next-in-Some.result behind
          (next_behind depth ps at c.next_number-next-in-Some.result next);
    }

pub loop-next-preserved : goal.loop-next-preserved
loop-next-preserved g c =
    let P = g.C.Chooser.IsChosen c.args.chooser.now in
    let ps = c.args.pattern.now in
    let depth = c.depth-depth.result in
    let at = c.in-Some.at in
    let placed = (placed_view c.in-Some-placed.placed) in
    let next = c.next_number-next-in-Some.ensures ps c.in-Some-placed.ensures in
    let passed : (found : Option (List Part)) → IsFirstChosen P (branches_of depth (drop (at + 1) ps)) found
    → IsFirstChosen P (branches_of depth (drop at ps)) found = λ found k.
    subst (λ (bs : List Branching). IsFirstChosen P bs found)
    (sym (deeper_there placed ps at c.in-Some-placed.ensures c.depth.result c.depth.ensures depth c.if-depth.false)) k
    in
    let behind : c.args.index < at = rw c.in-Some.is at c.loop-next.invariant.behind in
    record {
      passed = λ found k. c.loop-next.invariant.passed found
          (rw c.in-Some.is (passed found (first_behind P c.requires.numbers depth ps at c.next_number-next-in-Some.result found next k)));
      behind = further c.args.index at c.next_number-next-in-Some.result behind
          (next_behind depth ps at c.next_number-next-in-Some.result next);
    }
