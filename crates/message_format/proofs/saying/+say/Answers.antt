use Rattle.std.proofs.Common.{ℕ, List, subst, arith}
use Rattle.message_format.specs.FormatMeaning.{Said, MessageSays}
use Rattle.message_format.specs.FormatSteps.{both}
use Rattle.message_format.proofs.saying.+say.Goals as goal

pub parts-preserved-in_ok-say : goal.parts-preserved-in_ok-say
parts-preserved-in_ok-say g t c =
    let fewer = rw (c.in-Some.is, c.in-Some-branch.is) at c.in_ok-next.ensures.fewer in
    record {
      says = λ before h.
          let i = c.parts.invariant.says before h in
          let s = rw (c.in-Some.is, c.in-Some-branch.is) at (c.in_ok-next.ensures.said i.0 i.1) in
          let j = c.in_ok-say.ensures s.0 s.1 in
          let said =
          subst (λ (n : List ℕ). MessageSays (g.A.Arguments.arguments c.args.arguments.now)
          (both (g.R.TextRules.rules c.args.cardinal.now) (g.R.TextRules.rules c.args.ordinal.now)) n s.0
          (g.S.MessageSteps.parts c.in-Some-branch.branch) (Said j.0)) c.as_bytes.ensures j.2 in
          (j.0, j.1, λ o k. i.2 o (s.2.comes j.0 o said k));
      shorter = omega (arith, c.parts.invariant.shorter, fewer.0);
    }

pub parts-preserved : goal.parts-preserved
parts-preserved g t c =
    let fewer = rw (c.in-Some.is, c.in_default-branch.is) at c.in_ok-next.ensures.fewer in
    record {
      says = λ before h.
          let i = c.parts.invariant.says before h in
          let s = rw (c.in-Some.is, c.in_default-branch.is) at (c.in_ok-next.ensures.said i.0 i.1) in
          (s.0, s.1, λ o k. i.2 o (s.2.comes o k));
      shorter = omega (arith, c.parts.invariant.shorter, fewer.0);
    }
