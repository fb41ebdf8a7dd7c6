use Rattle.std.proofs.Common.{◌≡◌, ◌∙◌, ◌+◌, ◌++◌, ◌<◌, Option, drop, length, arith, refl, ap, inl, inr}
use Rattle.std.proofs.lemmas.Result.{err_from_is_err_and}
use Rattle.message_format.specs.FormatArguments.{Value}
use Rattle.message_format.specs.FormatMeaning.{Said, Faulty}
use Rattle.message_format.specs.FormatSteps.{Step, Stops, both, shown_value}
use Rattle.message_format.specs.Inner.FormatViews.{any_value}
use Rattle.message_format.proofs.Less.{fault_gives}
use Rattle.message_format.proofs.Walk.{PartIs, does, at_end, at_stop, at_text, at_fault, fault_of_all}
use Rattle.packed_pattern.specs.Inner.PlacesAhead.{placed_view}
use Rattle.packed_format.proofs.BehindParts.{no_place}
use Rattle.packed_format.proofs.PlacesRead.{within}
use Rattle.packed_format.proofs.Sayings.{at_last, fewer_behind, goes_by_branch, headed_by, no_more_behind}
use Rattle.packed_format.proofs.saying.+say_from.Goals as goal

pub parts-preserved-in-Text : goal.parts-preserved-in-Text
parts-preserved-in-Text g t c =
    let A = g.A.Arguments.arguments c.args.arguments.now in
    let R = both (g.R.TextRules.rules c.args.cardinal.now) (g.R.TextRules.rules c.args.ordinal.now) in
    let ps = c.args.pattern.now in
    let placed = placed_view c.in-Some.placed in
    let at = c.parts.next in
    let text = c.in-Text.text.now in
    let there = within placed ps at c.in-Some.ensures in
    let first = headed_by placed ps at c.part.result c.in-Some.ensures c.part.ensures in
    record {
      says = λ before h.
          let i = c.parts.invariant.says before h in
          let step =
          at_text A R c.parts.hash.now i.0 text (i.0 ++ text) (drop at ps) c.part.result (drop (at + 1) ps) first
          (does A R c.parts.hash.now c.part.result _ _ _ c.in-Text.is refl) refl in
          (i.0 ++ text, c.in_ok-add-in-Text.ensures i.0 i.1, λ o k. i.2 o (step.comes o k));
      shorter = no_more_behind ps at there (at + 1) c.args.at (omega arith) c.parts.invariant.shorter;
    }

pub parts-preserved-in-Hash : goal.parts-preserved-in-Hash
parts-preserved-in-Hash g t c =
    let A = g.A.Arguments.arguments c.args.arguments.now in
    let R = both (g.R.TextRules.rules c.args.cardinal.now) (g.R.TextRules.rules c.args.ordinal.now) in
    let ps = c.args.pattern.now in
    let placed = placed_view c.in-Some.placed in
    let at = c.parts.next in
    let text = c.parts.hash.now in
    let there = within placed ps at c.in-Some.ensures in
    let first = headed_by placed ps at c.part.result c.in-Some.ensures c.part.ensures in
    record {
      says = λ before h.
          let i = c.parts.invariant.says before h in
          let step =
          at_text A R c.parts.hash.now i.0 text (i.0 ++ text) (drop at ps) c.part.result (drop (at + 1) ps) first
          (does A R c.parts.hash.now c.part.result _ _ _ c.in-Hash.is refl) refl in
          (i.0 ++ text, c.in_ok-add-in-Hash.ensures i.0 i.1, λ o k. i.2 o (step.comes o k));
      shorter = no_more_behind ps at there (at + 1) c.args.at (omega arith) c.parts.invariant.shorter;
    }

pub parts-preserved-in-Argument : goal.parts-preserved-in-Argument
parts-preserved-in-Argument g t c =
    let A = g.A.Arguments.arguments c.args.arguments.now in
    let R = both (g.R.TextRules.rules c.args.cardinal.now) (g.R.TextRules.rules c.args.ordinal.now) in
    let ps = c.args.pattern.now in
    let placed = placed_view c.in-Some.placed in
    let at = c.parts.next in
    let text = c.in_ok-text-in-Argument.text.now in
    let there = within placed ps at c.in-Some.ensures in
    let first = headed_by placed ps at c.part.result c.in-Some.ensures c.part.ensures in
    record {
      says = λ before h.
          let i = c.parts.invariant.says before h in
          let step =
          at_text A R c.parts.hash.now i.0 text (i.0 ++ text) (drop at ps) c.part.result (drop (at + 1) ps) first
          (does A R c.parts.hash.now c.part.result _ _ _ c.in-Argument.is
          (c.in_ok-text-in-Argument.ensures.text ∙ ap (λ (v : Option Value). shown_value c.in-Argument.name.now v) c.value.ensures)) refl in
          (i.0 ++ text, c.in_ok-add-in-Argument.ensures i.0 i.1, λ o k. i.2 o (step.comes o k));
      shorter = no_more_behind ps at there (at + 1) c.args.at (omega arith) c.parts.invariant.shorter;
    }

pub overflow_add-next-in-Hash : goal.overflow_add-next-in-Hash
overflow_add-next-in-Hash g t c =
    omega (arith, within (placed_view c.in-Some.placed) c.args.pattern.now c.parts.next c.in-Some.ensures, c.requires.few)

pub parts-smaller-in-Hash : goal.parts-smaller-in-Hash
parts-smaller-in-Hash g t c =
    let ps = c.args.pattern.now in
    fewer_behind ps c.parts.next (within (placed_view c.in-Some.placed) ps c.parts.next c.in-Some.ensures) (c.parts.next + 1) (omega arith)

pub overflow_add-next-in-Argument : goal.overflow_add-next-in-Argument
overflow_add-next-in-Argument g t c =
    omega (arith, within (placed_view c.in-Some.placed) c.args.pattern.now c.parts.next c.in-Some.ensures, c.requires.few)

pub parts-smaller-in-Argument : goal.parts-smaller-in-Argument
parts-smaller-in-Argument g t c =
    let ps = c.args.pattern.now in
    fewer_behind ps c.parts.next (within (placed_view c.in-Some.placed) ps c.parts.next c.in-Some.ensures) (c.parts.next + 1) (omega arith)

pub returns-in_err-text-in-Argument : goal.returns-in_err-text-in-Argument
returns-in_err-text-in-Argument g t c before h =
    let A = g.A.Arguments.arguments c.args.arguments.now in
    let R = both (g.R.TextRules.rules c.args.cardinal.now) (g.R.TextRules.rules c.args.ordinal.now) in
    let ps = c.args.pattern.now in
    let at = c.parts.next in
    let name = c.in-Argument.name.now in
    let f = c.in_err-text-in-Argument.field-0.0 in
    let i = c.parts.invariant.says before h in
    let first = headed_by (placed_view c.in-Some.placed) ps at c.part.result c.in-Some.ensures c.part.ensures in
    let p = err_from_is_err_and c.from_residual-in_err-text-in-Argument.result c.from_residual-in_err-text-in-Argument.ensures.1 in
    let here =
    at_fault A R c.parts.hash.now i.0 (drop at ps) c.part.result (drop (at + 1) ps) f first
    (fault_gives f (λ (s : Step). s ≡ shown_value name (any_value c.value.result)) (PartIs A R c.parts.hash.now c.part.result (drop (at + 1) ps))
    (λ s k. does A R c.parts.hash.now c.part.result (drop (at + 1) ps) _ s c.in-Argument.is (k ∙ ap (λ (v : Option Value). shown_value name v) c.value.ensures))
    c.in_err-text-in-Argument.ensures.text) in
    rw (p.1, p.2)
    (fault_of_all A R c.args.hash.now c.parts.hash.now i.0 before (drop c.args.at ps) (drop at ps) f here
    (λ fault n k. i.2 (Faulty fault n) k))

pub chosen_at_sight-requires-clause-within : goal.chosen_at_sight-requires-clause-within
chosen_at_sight-requires-clause-within g t c = within (placed_view c.in-Some.placed) c.args.pattern.now c.parts.next c.in-Some.ensures

pub overflow_add-behind : goal.overflow_add-behind
overflow_add-behind g t c =
    omega (arith, within (placed_view c.in-Some.placed) c.args.pattern.now c.parts.next c.in-Some.ensures, c.requires.few)

pub overflow_add-behind-in-Some-chosen_at_sight : goal.overflow_add-behind-in-Some-chosen_at_sight
overflow_add-behind-in-Some-chosen_at_sight g t c =
    omega (arith, within (placed_view c.in-Some.placed) c.args.pattern.now c.parts.next c.in-Some.ensures, c.requires.few, c.place.ensures.few)

pub parts-preserved-then-ends_at : goal.parts-preserved-then-ends_at
parts-preserved-then-ends_at g t c =
    let A = g.A.Arguments.arguments c.args.arguments.now in
    let R = both (g.R.TextRules.rules c.args.cardinal.now) (g.R.TextRules.rules c.args.ordinal.now) in
    let ps = c.args.pattern.now in
    let placed = placed_view c.in-Some.placed in
    let at = c.parts.next in
    let n = c.place.result in
    let taken = c.in-Some-chosen_at_sight in
    let there = within placed ps at c.in-Some.ensures in
    record {
      says = λ before h.
          let i = c.parts.invariant.says before h in
          let step =
          goes_by_branch A R c.parts.hash.now taken.shown.now i.0 placed ps at taken.branch n c.part.result c.in-Begin.kind c.in-Begin.name
          c.in-Begin.offset (any_value c.value-value.result) c.requires.ordered c.in-Some.ensures c.part.ensures c.in-Begin.is
          c.value-value.ensures (taken.ensures.branch c.in-Begin.name.now) c.place.ensures.place in
          let last =
          at_last A R c.parts.hash.now taken.shown.now i.0 (drop at ps) (drop taken.branch ps) (drop (at + 2 + n) ps) step
          (λ said. c.if-ends_at.ensures refl A R c.parts.hash.now said) in
          (i.0, i.1, λ o k. i.2 o (last o k));
      shorter = no_more_behind ps at there taken.branch c.args.at taken.ensures.behind c.parts.invariant.shorter;
    }

pub say_from-requires : goal.say_from-requires
say_from-requires g t c κs within-lives =
    let ps = c.args.pattern.now in
    let at = c.parts.next in
    let branch = c.in-Some-chosen_at_sight.branch in
    let less : length (drop branch ps) < length (drop at ps) =
    fewer_behind ps at (within (placed_view c.in-Some.placed) ps at c.in-Some.ensures) branch c.in-Some-chosen_at_sight.ensures.behind in (
      omega (arith, c.decreases, less, c.parts.invariant.shorter),
      (within-lives.0, (within-lives.1.0, (within-lives.1.1, (c.requires.few, c.requires.ordered)))),
    )

pub returns-in_err-say_from-in-Begin : goal.returns-in_err-say_from-in-Begin
returns-in_err-say_from-in-Begin g t c before h =
    let A = g.A.Arguments.arguments c.args.arguments.now in
    let R = both (g.R.TextRules.rules c.args.cardinal.now) (g.R.TextRules.rules c.args.ordinal.now) in
    let ps = c.args.pattern.now in
    let placed = placed_view c.in-Some.placed in
    let at = c.parts.next in
    let n = c.place.result in
    let taken = c.in-Some-chosen_at_sight in
    let i = c.parts.invariant.says before h in
    let f = c.in_err-say_from-in-Begin.field-0.0 in
    let step =
    goes_by_branch A R c.parts.hash.now taken.shown.now i.0 placed ps at taken.branch n c.part.result c.in-Begin.kind c.in-Begin.name
    c.in-Begin.offset (any_value c.value-value.result) c.requires.ordered c.in-Some.ensures c.part.ensures c.in-Begin.is
    c.value-value.ensures (taken.ensures.branch c.in-Begin.name.now) c.place.ensures.place in
    let p = err_from_is_err_and c.from_residual-in_err-say_from-in-Begin.result c.from_residual-in_err-say_from-in-Begin.ensures.1 in
    rw (p.1, p.2)
    (fault_of_all A R c.args.hash.now taken.shown.now i.0 before (drop c.args.at ps) (drop taken.branch ps) f
    (c.in_err-say_from-in-Begin.ensures i.0 i.1) (λ fault n k. i.2 (Faulty fault n) (step.breaks fault n k)))

pub parts-smaller : goal.parts-smaller
parts-smaller g t c =
    let ps = c.args.pattern.now in
    fewer_behind ps c.parts.next (within (placed_view c.in-Some.placed) ps c.parts.next c.in-Some.ensures) (c.parts.next + 2 + c.place.result) (omega arith)

pub parts-preserved : goal.parts-preserved
parts-preserved g t c =
    let A = g.A.Arguments.arguments c.args.arguments.now in
    let R = both (g.R.TextRules.rules c.args.cardinal.now) (g.R.TextRules.rules c.args.ordinal.now) in
    let ps = c.args.pattern.now in
    let placed = placed_view c.in-Some.placed in
    let at = c.parts.next in
    let n = c.place.result in
    let taken = c.in-Some-chosen_at_sight in
    let there = within placed ps at c.in-Some.ensures in
    record {
      says = λ before h.
          let i = c.parts.invariant.says before h in
          let step =
          goes_by_branch A R c.parts.hash.now taken.shown.now i.0 placed ps at taken.branch n c.part.result c.in-Begin.kind c.in-Begin.name
          c.in-Begin.offset (any_value c.value-value.result) c.requires.ordered c.in-Some.ensures c.part.ensures c.in-Begin.is
          c.value-value.ensures (taken.ensures.branch c.in-Begin.name.now) c.place.ensures.place in
          let j = c.in_ok-say_from-in-Begin.ensures i.0 i.1 in
          (j.0, j.1, λ o k. i.2 o (step.comes j.0 o j.2 k));
      shorter = no_more_behind ps at there (at + 2 + n) c.args.at (omega arith) c.parts.invariant.shorter;
    }

pub returns-in-Branch : goal.returns-in-Branch
returns-in-Branch g t c before h =
    let A = g.A.Arguments.arguments c.args.arguments.now in
    let R = both (g.R.TextRules.rules c.args.cardinal.now) (g.R.TextRules.rules c.args.ordinal.now) in
    let ps = c.args.pattern.now in
    let at = c.parts.next in
    let i = c.parts.invariant.says before h in
    let part = c.part.result in
    let first = headed_by (placed_view c.in-Some.placed) ps at part c.in-Some.ensures c.part.ensures in (
      i.0,
      i.1,
      i.2 (Said i.0)
          (at_stop A R c.parts.hash.now i.0 (drop at ps) part (drop (at + 1) ps) first
          (elim c.in-Branch.is [
            | inl is ↦ does A R c.parts.hash.now part (drop (at + 1) ps) _ Stops is.1 refl
            | inr is ↦ does A R c.parts.hash.now part (drop (at + 1) ps) _ Stops is refl
          ])),
    )

pub returns : goal.returns
returns g t c before h =
    let A = g.A.Arguments.arguments c.args.arguments.now in
    let R = both (g.R.TextRules.rules c.args.cardinal.now) (g.R.TextRules.rules c.args.ordinal.now) in
    let ps = c.args.pattern.now in
    let i = c.parts.invariant.says before h in
    (i.0, i.1, i.2 (Said i.0) (at_end A R c.parts.hash.now i.0 (drop c.parts.next ps) (no_place ps c.parts.next c.in_default.ensures)))
