use Rattle.std.proofs.Common.{length-take-le, sym}
use Rattle.rules_outline.proofs.outline.rules_of_chain.Goals as goal

pub slice_bounds-chain-end : goal.slice_bounds-chain-end
slice_bounds-chain-end c = sym (length-take-le c.in-Some.count c.walk.new.steps c.in-Some.ensures)
