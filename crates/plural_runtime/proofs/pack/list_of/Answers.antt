use Rattle.std.proofs.Common.{ap, arith, length, Err, subst, sym, true, ◌≡◌}
use Rattle.std.proofs.lemmas.List.{length-map}
use Rattle.packed_list.specs.ListBytes.{has_high_start}
use Rattle.plural_runtime.specs.PackedRelations.{relation_bytes}
use Rattle.plural_runtime.proofs.trees.PackedTrees.{many_high}
use Rattle.plural_runtime.proofs.pack.list_of.Goals as goal

pub returns-in-Err-CountLimit-clause-high : goal.returns-in-Err-CountLimit-clause-high
returns-in-Err-CountLimit-clause-high g c =
    let relations = c.requires.0 in
    let is = c.requires.1 in
    let count = c.in-Err-CountLimit.ensures.count_limit.0 (ap Err c.in-Err-CountLimit.field-0-is) in
    let l = length-map relations relation_bytes in
    let same = ap length is in
    subst (λ items. has_high_start items ≡ true) (sym is) (many_high relations (omega (arith, count, l, same)))
