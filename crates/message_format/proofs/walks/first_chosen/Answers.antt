use Rattle.std.proofs.Common.{◌≡◌, ◌-◌, ◌∙◌, true, false, length, take, drop, get_or, refl, arith, length-drop}
use Rattle.std.proofs.lemmas.List.{length-take}
use Rattle.std.proofs.lemmas.Grind.{common_steps}
use Rattle.message_pattern.specs.declared.part.Part as parts
use Rattle.message_pattern.specs.PatternParts.{selector_view}
use Rattle.message_format.proofs.Passes.{no_part, headed, passed, taken, behind_branch}
use Rattle.message_format.proofs.walks.first_chosen.Goals as goal

pub returns-then-chosen-clause-first : goal.returns-then-chosen-clause-first
returns-then-chosen-clause-first g c =
    let ps = c.loop-left.left.now in
    c.loop-left.invariant.passed _
    (taken (g.C.Chooser.IsChosen c.args.chooser.now) c.args.depth ps (get_or ps 0 no_part) (take (length ps - 1) (drop 1 ps))
    c.in-Branch.selector
    (headed ps no_part (length ps) c.in-len1-up.len_at_least refl) c.if-part-depth.true c.in-Branch.is (c.in-Ok.ensures.0 c.if-chosen.true))

pub loop-left-preserved-else-chosen : goal.loop-left-preserved-else-chosen
loop-left-preserved-else-chosen g c =
    let ps = c.loop-left.left.now in
    let P = g.C.Chooser.IsChosen c.args.chooser.now in
    let head = headed ps no_part (length ps) c.in-len1-up.len_at_least refl in
    let no : P (selector_view c.in-Branch.selector) → ⊥ = λ e.
    let yes : c.in-Ok.chosen ≡ true = c.in-Ok.ensures.1 e in
    let not : c.in-Ok.chosen ≡ false = c.if-chosen.false in
    cc
    in
    record {
      passed = λ found k.
          c.loop-left.invariant.passed found
          (passed P c.args.depth ps (get_or ps 0 no_part) (take (length ps - 1) (drop 1 ps)) c.in-Branch.selector found
          head c.if-part-depth.true c.in-Branch.is no k);
      behind = behind_branch c.args.depth ps (get_or ps 0 no_part) (take (length ps - 1) (drop 1 ps)) c.in-Branch.selector head
          c.if-part-depth.true c.in-Branch.is ∙ c.loop-left.invariant.behind;
      shorter =
          first_of (
            grind (arith, common_steps, c.loop-left.invariant.shorter),
            omega
                (arith, length-take {A = parts.Part}, length-drop {A = parts.Part}, c.loop-left.invariant.shorter),
          );
    }
