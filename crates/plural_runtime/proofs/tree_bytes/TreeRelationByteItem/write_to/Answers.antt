use Rattle.std.proofs.Common.{Result, Ok, Err, subst, sym}
use Rattle.std.specs.Result.{OnErr}
use Rattle.packed_list.specs.ListBytes.{StaysInFront}
use Rattle.plural_runtime.proofs.tree_bytes.TreeRelationByteItem.write_to.Goals as goal

-- what holds anyway holds at an error
at_error : {T E P : Type 0} (r : Result T E) → P → OnErr r P
at_error (Ok x) p = tt
at_error (Err e) p = p

pub returns-in_err-extend_from_slice-2-clause-kept : goal.returns-in_err-extend_from_slice-2-clause-kept
returns-in_err-extend_from_slice-2-clause-kept c =
    at_error c.from_residual-in_err-extend_from_slice-2.result
    (subst (StaysInFront c.args.bytes.now.items) (sym c.in_err-extend_from_slice-2.ensures.items) c.loop-item.invariant.kept)
