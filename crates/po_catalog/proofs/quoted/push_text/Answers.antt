use Rattle.std.proofs.Common.{sym, arith}
use Rattle.po_catalog.proofs.Sayings.{broken_text, nothing_said, more_said, whole_said}
use Rattle.po_catalog.proofs.quoted.push_text.Goals as goal

pub said-init : goal.said-init
said-init c = record {
  done = nothing_said c.args.line.now c.args.text.now.items;
  shorter = omega arith;
}

pub returns-in-End-clause-said : goal.returns-in-End-clause-said
returns-in-End-clause-said c =
    whole_said c.args.line.now _ _ c.said.rest.now c.in-End.after.now c.said.invariant.done (sym c.in-End.ensures.front)

pub returns-in-Bad-clause-said : goal.returns-in-Bad-clause-said
returns-in-Bad-clause-said c =
    broken_text c.args.line.now _ _ c.said.rest.now c.in-Bad.cause c.said.invariant.done (sym c.in-Bad.ensures.front)

pub said-preserved : goal.said-preserved
said-preserved c = record {
  done = more_said c.args.line.now _ _ _ c.in-Byte.byte c.said.rest.now c.in-Byte.after.now c.said.invariant.done
      c.in_ok-push-in-Byte.ensures.items (sym c.in-Byte.ensures.front);
  shorter = omega (arith, c.in-Byte.ensures.shorter, c.said.invariant.shorter);
}
