use Rattle.std.proofs.Common.{◌≡◌, ◌∙◌, ◌+◌, ◌∷◌, drop, refl, sym, ap, arith, true, false, bytes_eq, Some}
use Rattle.message_pattern.specs.PatternParts.{branches_of, selector_view}
use Rattle.message_format.specs.FormatBranches.{branch_of_keyword, is_keyword}
use Rattle.packed_pattern.specs.Inner.PlacesAhead.{placed_view}
use Rattle.packed_format.proofs.BehindParts.{no_place}
use Rattle.packed_format.proofs.PlacesRead.{within}
use Rattle.packed_format.proofs.Walked.{deeper_there, selector_there, none_there, no_keyword}
use Rattle.packed_format.proofs.branches.branch_of_keyword.Goals as goal

pub returns-in_default-selector-clause-branch : goal.returns-in_default-selector-clause-branch
returns-in_default-selector-clause-branch c =
    sym (ap (branch_of_keyword c.args.word.now)
    (none_there (placed_view c.in-Some.placed) c.args.pattern.now c.loop-placed.at c.in-Some.ensures c.depth.result c.depth.ensures
    c.args.depth c.if-depth.true c.in_default-selector.ensures))
    ∙ c.loop-placed.invariant.same

pub overflow_add-result : goal.overflow_add-result
overflow_add-result c =
    let there = within (placed_view c.in-Some.placed) c.args.pattern.now c.loop-placed.at c.in-Some.ensures in
    omega (arith, there, c.requires.few)

pub returns-then-eq-clause-branch : goal.returns-then-eq-clause-branch
returns-then-eq-clause-branch c =
    let bs = branches_of c.args.depth (drop (c.loop-placed.at + 1) c.args.pattern.now) in
    let there = selector_there (placed_view c.in-Some.placed) c.args.pattern.now c.loop-placed.at c.in-Some.ensures c.depth.result c.depth.ensures
    c.args.depth (selector_view c.in-Some-selector.selector) c.if-depth.true c.in-Some-selector.ensures in
    let same : bytes_eq c.in-Keyword.other.now c.args.word.now ≡ true = sym c.eq.ensures ∙ c.if-eq.true in
    let found : Some (drop (c.loop-placed.at + 1) c.args.pattern.now)
    ≡ branch_of_keyword c.args.word.now
    (record { selector = selector_view c.in-Some-selector.selector; parts = drop (c.loop-placed.at + 1) c.args.pattern.now } ∷ bs) =
    rw (c.in-Keyword.is, same) refl in
    found ∙ (sym (ap (branch_of_keyword c.args.word.now) there) ∙ c.loop-placed.invariant.same)

pub next_selector-at-requires : goal.next_selector-at-requires
next_selector-at-requires c =
    let there = within (placed_view c.in-Some.placed) c.args.pattern.now c.loop-placed.at c.in-Some.ensures in
    omega (arith, there, c.requires.few)

pub loop-placed-smaller-else-eq : goal.loop-placed-smaller-else-eq
loop-placed-smaller-else-eq c =
    let there = within (placed_view c.in-Some.placed) c.args.pattern.now c.loop-placed.at c.in-Some.ensures in
    omega (arith, there, c.next_selector-at.ensures.behind)

pub loop-placed-smaller-in_default-selector-2 : goal.loop-placed-smaller-in_default-selector-2
loop-placed-smaller-in_default-selector-2 c =
    let there = within (placed_view c.in-Some.placed) c.args.pattern.now c.loop-placed.at c.in-Some.ensures in
    omega (arith, there, c.next_selector-at.ensures.behind)

pub loop-placed-smaller : goal.loop-placed-smaller
loop-placed-smaller c =
    let there = within (placed_view c.in-Some.placed) c.args.pattern.now c.loop-placed.at c.in-Some.ensures in
    omega (arith, there, c.next_selector-at.ensures.behind)

pub loop-placed-preserved-else-eq : goal.loop-placed-preserved-else-eq
loop-placed-preserved-else-eq c =
    let word = c.args.word.now in
    let bs = branches_of c.args.depth (drop (c.loop-placed.at + 1) c.args.pattern.now) in
    let placed = (placed_view c.in-Some.placed) in
    let next = c.next_selector-at.ensures.branches c.args.pattern.now c.in-Some.ensures in
    let passed : branch_of_keyword word (branches_of c.args.depth (drop c.loop-placed.at c.args.pattern.now)) ≡ branch_of_keyword word bs =
    let there = selector_there placed c.args.pattern.now c.loop-placed.at c.in-Some.ensures c.depth.result c.depth.ensures
    c.args.depth (selector_view c.in-Some-selector.selector) c.if-depth.true c.in-Some-selector.ensures in
    let other : bytes_eq c.in-Keyword.other.now word ≡ false = sym c.eq.ensures ∙ c.if-eq.false in
    ap (branch_of_keyword word) there ∙ rw (c.in-Keyword.is, other) refl
    in
    record {
      same = ap (branch_of_keyword word) next ∙ (sym passed ∙ c.loop-placed.invariant.same);
      behind = omega (arith, c.loop-placed.invariant.behind, c.next_selector-at.ensures.behind);
    }

pub loop-placed-preserved-in_default-selector-2 : goal.loop-placed-preserved-in_default-selector-2
loop-placed-preserved-in_default-selector-2 c =
    let word = c.args.word.now in
    let bs = branches_of c.args.depth (drop (c.loop-placed.at + 1) c.args.pattern.now) in
    let placed = (placed_view c.in-Some.placed) in
    let next = c.next_selector-at.ensures.branches c.args.pattern.now c.in-Some.ensures in
    let passed : branch_of_keyword word (branches_of c.args.depth (drop c.loop-placed.at c.args.pattern.now)) ≡ branch_of_keyword word bs =
    let there = selector_there placed c.args.pattern.now c.loop-placed.at c.in-Some.ensures c.depth.result c.depth.ensures
    c.args.depth (selector_view c.in-Some-selector.selector) c.if-depth.true c.in-Some-selector.ensures in
    let other : is_keyword word (selector_view c.in-Some-selector.selector) ≡ false =
    no_keyword word c.in-Some-selector.selector c.in_default-selector-2.not-Keyword in
    ap (branch_of_keyword word) there ∙ rw other refl
    in
    record {
      same = ap (branch_of_keyword word) next ∙ (sym passed ∙ c.loop-placed.invariant.same);
      behind = omega (arith, c.loop-placed.invariant.behind, c.next_selector-at.ensures.behind);
    }

pub loop-placed-preserved : goal.loop-placed-preserved
loop-placed-preserved c =
    let word = c.args.word.now in
    let bs = branches_of c.args.depth (drop (c.loop-placed.at + 1) c.args.pattern.now) in
    let placed = (placed_view c.in-Some.placed) in
    let next = c.next_selector-at.ensures.branches c.args.pattern.now c.in-Some.ensures in
    let passed : branch_of_keyword word (branches_of c.args.depth (drop c.loop-placed.at c.args.pattern.now)) ≡ branch_of_keyword word bs =
    ap (branch_of_keyword word) (deeper_there placed c.args.pattern.now c.loop-placed.at c.in-Some.ensures c.depth.result
    c.depth.ensures c.args.depth c.if-depth.false)
    in
    record {
      same = ap (branch_of_keyword word) next ∙ (sym passed ∙ c.loop-placed.invariant.same);
      behind = omega (arith, c.loop-placed.invariant.behind, c.next_selector-at.ensures.behind);
    }

pub returns-clause-branch : goal.returns-clause-branch
returns-clause-branch c =
    sym (ap (λ ps. branch_of_keyword c.args.word.now (branches_of c.args.depth ps))
    (no_place c.args.pattern.now c.loop-placed.at c.in_default.ensures)) ∙ c.loop-placed.invariant.same
