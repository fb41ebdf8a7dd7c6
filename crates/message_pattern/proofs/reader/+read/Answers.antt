use Rattle.std.proofs.Common.{◌≡◌, ◌||◌, Bool, Ok, sym, ap, ◌∙◌, arith}
use Rattle.std.proofs.lemmas.Result.{err_from_is_err_and}
use Rattle.message_pattern.proofs.Steps.{branch_ends, argument_read, argument_broken, head_broken, plain_read, choice_begins, selector_broken, argument_ends, branch_read, branch_broken, too_deep}
use Rattle.message_pattern.proofs.Outcomes.{ended, passes_on, carries}
use Rattle.message_pattern.specs.PatternHeads.{head_front, is_other}
use Rattle.message_pattern.specs.PatternParts.{offset_view, selector_view, parts_view}
use Rattle.message_pattern.specs.Inner.PatternViews.{head_view}
use Rattle.message_pattern.proofs.reader.+read.Goals as goal

pub message-returns-in-End-clause-outcome : goal.message-returns-in-End-clause-outcome
message-returns-in-End-clause-outcome below c =
    let read = rw c.in-End.is at c.in_ok-pieces.ensures.read in
    ended c.args.context c.args.depth _ _ _ _ c.end_of_text.ensures (λ o h. c.arguments.invariant.read o (read c.args.formats o h))

pub message-returns-in-Closes-clause-outcome : goal.message-returns-in-Closes-clause-outcome
message-returns-in-Closes-clause-outcome below c =
    let read = rw c.in-Closes.is at c.in_ok-pieces.ensures.read in
    c.arguments.invariant.read _ (read c.args.formats _ (branch_ends c.args.context c.args.depth _ _))

pub message-returns-in_err-rest-in-Opens-clause-outcome : goal.message-returns-in_err-rest-in-Opens-clause-outcome
message-returns-in_err-rest-in-Opens-clause-outcome below c =
    let p = err_from_is_err_and c.from_residual-in_err-rest-in-Opens.result c.from_residual-in_err-rest-in-Opens.ensures.1 in
    let read = rw c.in-Opens.is at c.in_ok-pieces.ensures.read in
    rw (p.1, p.2)
    (passes_on _ _ _ c.argument.new.parts.items _ c.argument.new.parts.items c.in_err-rest-in-Opens.field-0.0
    c.in_err-rest-in-Opens.ensures.outcome
    (λ fault h. c.arguments.invariant.read _ (read c.args.formats _ (argument_broken c.args.context c.args.depth _ _ fault h))))

pub message-arguments-preserved : goal.message-arguments-preserved
message-arguments-preserved below c =
    let read = rw c.in-Opens.is at c.in_ok-pieces.ensures.read in
    let shorter = rw c.in-Opens.is at c.in_ok-pieces.ensures.shorter in
    record {
      read = λ o h. c.arguments.invariant.read o
          (read c.args.formats o (argument_read c.args.context c.args.depth _ _ _ _ o c.in_ok-rest-in-Opens.ensures.outcome h));
      shorter = omega (arith, shorter, c.in_ok-rest-in-Opens.ensures.shorter, c.arguments.invariant.shorter);
    }

pub argument-returns-in_err-head-clause-outcome : goal.argument-returns-in_err-head-clause-outcome
argument-returns-in_err-head-clause-outcome below c =
    let p = err_from_is_err_and c.from_residual.result c.from_residual.ensures.1 in
    rw (p.1, p.2)
    (head_broken c.args.depth c.args.text.now (parts_view c.args.parts.now.items) c.in_err-head.field-0.0 (sym c.in_err-head.ensures.head))

pub argument-returns-in_ok-push-in-Plain-clause-outcome : goal.argument-returns-in_ok-push-in-Plain-clause-outcome
argument-returns-in_ok-push-in-Plain-clause-outcome below c =
    let h : Ok (head_view c.in_ok-head.head, c.in_ok-head.rest.now) ≡ head_front c.args.formats c.args.text.now =
    c.in_ok-head.ensures.head in
    plain_read c.args.depth c.args.text.now c.in-Plain.name.now c.in_ok-head.rest.now (parts_view c.args.parts.now.items)
    (parts_view c.push.new.parts.items)
    (sym (rw c.in-Plain.is at h)) c.in_ok-push-in-Plain.ensures.ok

pub argument-returns-in_ok-push-in-Choice-clause-outcome : goal.argument-returns-in_ok-push-in-Choice-clause-outcome
argument-returns-in_ok-push-in-Choice-clause-outcome below c =
    let h : Ok (head_view c.in_ok-head.head, c.in_ok-head.rest.now) ≡ head_front c.args.formats c.args.text.now =
    c.in_ok-head.ensures.head in
    let e = rw c.in-Choice.is at h in
    carries _ _ c.args.parts.now.items c.push-in-Choice.new.parts.items c.branches.new.parts.items c.branches.result
    c.branches.ensures.outcome
    (λ o k.
    choice_begins c.args.depth c.args.text.now c.in-Choice.name.now c.in_ok-head.rest.now c.in-Choice.kind (offset_view c.in-Choice.offset)
    (parts_view c.args.parts.now.items) (parts_view c.push-in-Choice.new.parts.items) o (sym e) c.in_ok-push-in-Choice.ensures.ok k)

pub branches-returns-in_err-after-clause-outcome : goal.branches-returns-in_err-after-clause-outcome
branches-returns-in_err-after-clause-outcome below c =
    let p = err_from_is_err_and c.from_residual.result c.from_residual.ensures.1 in
    rw (p.1, p.2)
    (c.selectors.invariant.read _
    (selector_broken c.args.kind c.args.depth c.selectors.has_other c.selectors.rest.now
    (parts_view c.selectors.parts.items) c.in_err-after.field-0.0 (sym c.in_err-after.ensures.branch)))

pub branches-returns-in-Closes-clause-outcome : goal.branches-returns-in-Closes-clause-outcome
branches-returns-in-Closes-clause-outcome below c =
    let e = rw c.in-Closes.is at c.in_ok-after.ensures.branch in
    c.selectors.invariant.read _
    (argument_ends c.args.kind c.args.depth c.selectors.has_other c.selectors.rest.now c.in-Closes.after.now
    (parts_view c.selectors.parts.items) (parts_view c.push.new.parts.items) (sym e) c.in_ok-push-in-Closes.ensures.ok)

pub branches-returns-then-depth-ge-DEPTH_LIMIT-clause-outcome : goal.branches-returns-then-depth-ge-DEPTH_LIMIT-clause-outcome
branches-returns-then-depth-ge-DEPTH_LIMIT-clause-outcome below c =
    let e = rw c.in-Opens.is at c.in_ok-after.ensures.branch in
    rw c.fault_at.ensures
    (c.selectors.invariant.read _
    (too_deep c.args.kind c.args.depth c.selectors.has_other c.selectors.rest.now c.in-Opens.inner.now
    (selector_view c.in-Opens.selector) (parts_view c.selectors.parts.items) (sym e) c.if-depth-ge-DEPTH_LIMIT.true))

pub branches-returns-in_err-rest-in-Opens-clause-outcome : goal.branches-returns-in_err-rest-in-Opens-clause-outcome
branches-returns-in_err-rest-in-Opens-clause-outcome below c =
    let p = err_from_is_err_and c.from_residual-in_err-rest-in-Opens.result c.from_residual-in_err-rest-in-Opens.ensures.1 in
    let e = rw c.in-Opens.is at c.in_ok-after.ensures.branch in
    rw (p.1, p.2)
    (passes_on _ _ _ c.message.new.parts.items _ c.message.new.parts.items c.in_err-rest-in-Opens.field-0.0
    c.in_err-rest-in-Opens.ensures.outcome
    (λ fault h.
    c.selectors.invariant.read _
    (branch_broken c.args.kind c.args.depth c.selectors.has_other c.context.result c.selectors.rest.now c.in-Opens.inner.now
    (selector_view c.in-Opens.selector) (parts_view c.selectors.parts.items) (parts_view c.push-in-Opens.new.parts.items) fault
    (sym e) c.if-depth-ge-DEPTH_LIMIT.false c.context.ensures c.in_ok-push-in-Opens.ensures.ok h)))

pub branches-selectors-preserved-then-has_other : goal.branches-selectors-preserved-then-has_other
branches-selectors-preserved-then-has_other below c =
    let e = rw c.in-Opens.is at c.in_ok-after.ensures.branch in
    let shorter = rw c.in-Opens.is at c.in_ok-after.ensures.shorter in
    let sel = selector_view c.in-Opens.selector in
    record {
      read = λ o k.
          c.selectors.invariant.read o
          (branch_read c.args.kind c.args.depth c.selectors.has_other c.selectors.has_other c.context.result c.selectors.rest.now
          c.in-Opens.inner.now c.in_ok-rest-in-Opens.rest.now sel (parts_view c.selectors.parts.items)
          (parts_view c.push-in-Opens.new.parts.items) (parts_view c.message.new.parts.items) o
          (sym e) c.if-depth-ge-DEPTH_LIMIT.false c.context.ensures
          (c.if-has_other.true ∙ ap (λ (v : Bool). v || is_other sel) (sym c.if-has_other.true))
          c.in_ok-push-in-Opens.ensures.ok c.in_ok-rest-in-Opens.ensures.outcome k);
      shorter = omega (arith, shorter, c.in_ok-rest-in-Opens.ensures.shorter, c.selectors.invariant.shorter);
    }

pub branches-selectors-preserved : goal.branches-selectors-preserved
branches-selectors-preserved below c =
    let e = rw c.in-Opens.is at c.in_ok-after.ensures.branch in
    let shorter = rw c.in-Opens.is at c.in_ok-after.ensures.shorter in
    let sel = selector_view c.in-Opens.selector in
    record {
      read = λ o k.
          c.selectors.invariant.read o
          (branch_read c.args.kind c.args.depth c.selectors.has_other c.is_other-has_other.result c.context.result
          c.selectors.rest.now c.in-Opens.inner.now c.in_ok-rest-in-Opens.rest.now sel (parts_view c.selectors.parts.items)
          (parts_view c.push-in-Opens.new.parts.items) (parts_view c.message.new.parts.items) o
          (sym e) c.if-depth-ge-DEPTH_LIMIT.false c.context.ensures
          (c.is_other-has_other.ensures ∙ ap (λ (v : Bool). v || is_other sel) (sym c.if-has_other.false))
          c.in_ok-push-in-Opens.ensures.ok c.in_ok-rest-in-Opens.ensures.outcome k);
      shorter = omega (arith, shorter, c.in_ok-rest-in-Opens.ensures.shorter, c.selectors.invariant.shorter);
    }
