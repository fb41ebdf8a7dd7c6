use Rattle.std.proofs.Common.{subst, arith}
use Rattle.plural_reference.specs.Inner.BehindFirst.{HasFirst}
use Rattle.plural_reference.proofs.tokens.Walk.{walk_goes_on, walk_stands, walk_ends, one_token_more, no_token_more}
use Rattle.plural_reference.proofs.parser.fault.last_tokens.Goals as goal

pub returns-then-ahead-left-clause-stands : goal.returns-then-ahead-left-clause-stands
returns-then-ahead-left-clause-stands c = λ before rest e n.
    walk_stands _ _ before rest c.pieces.invariant.walk (c.in-Some.ensures.no_space c.if-is_token.true) e
    (omega (arith, n, c.if-ahead-left.true, c.pieces.invariant.ahead))

pub overflow_sub-ahead : goal.overflow_sub-ahead
overflow_sub-ahead c =
    let more = one_token_more _ _ (subst (λ b. HasFirst c.pieces.rest.now b c.in-Some.after.now) c.if-is_token.true c.in-Some.ensures) in
    omega (arith, more, c.pieces.invariant.ahead)

pub pieces-preserved-else-ahead-left : goal.pieces-preserved-else-ahead-left
pieces-preserved-else-ahead-left c =
    let more = one_token_more _ _ (subst (λ b. HasFirst c.pieces.rest.now b c.in-Some.after.now) c.if-is_token.true c.in-Some.ensures) in
    record {
      walk = walk_goes_on _ _ _ _ c.pieces.invariant.walk c.in-Some.ensures;
      ahead = omega (arith, more, c.pieces.invariant.ahead);
      enough = λ few.
          let enough = c.pieces.invariant.enough few in
          omega (arith, more, enough, c.pieces.invariant.ahead, c.if-ahead-left.false);
    }

pub pieces-preserved : goal.pieces-preserved
pieces-preserved c =
    let same = no_token_more _ _ (subst (λ b. HasFirst c.pieces.rest.now b c.in-Some.after.now) c.if-is_token.false c.in-Some.ensures) in
    record {
      walk = walk_goes_on _ _ _ _ c.pieces.invariant.walk c.in-Some.ensures;
      ahead = omega (arith, same, c.pieces.invariant.ahead);
      enough = λ few. let enough = c.pieces.invariant.enough few in omega (arith, same, enough);
    }

pub returns-clause-stands : goal.returns-clause-stands
returns-clause-stands c = λ before rest e n.
    walk_ends _ _ _ before rest c.pieces.invariant.walk c.in_default.ensures c.pieces.invariant.enough e n
