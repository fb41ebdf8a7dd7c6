-- A walk over the relations of a tree, and the lengths of their bytes.
use Rattle.std.proofs.Common.{◌≡◌, ℕ, ◌+◌, ◌*◌, List, [], ◌∷◌, length, map, refl, arith}
use Rattle.std.proofs.lemmas.List.{length-map}
use Rattle.plural_reference.specs.declared.ast.Relation.{Relation}
use Rattle.plural_reference.specs.Truth.{ends_of}
use Rattle.plural_runtime.specs.declared.kinds.AndOr.{AndOr}
use Rattle.plural_runtime.specs.declared.kinds.AndOr.TheVariants.{And}
use Rattle.plural_runtime.specs.PackedTree.{packed_and_condition, packed_relation}
use Rattle.plural_runtime.specs.PackedRelations.{relation_bytes}
use Rattle.plural_runtime.proofs.bytes.ItemBytes.{length-ranges}

-- an and-condition whose first relation is marked And too
pub all_and : (relations : List Relation) → packed_and_condition And relations ≡ map (packed_relation And) relations
all_and [] = refl
all_and (relation ∷ relations) = refl

-- a relation takes 5 bytes, and 8 for each of its ranges
pub length-relation_bytes : (mark : AndOr) (relation : Relation)
    → length (relation_bytes (packed_relation mark relation)) ≡ 5 + 8 * length relation.range_list.0
unfolding relation_bytes
length-relation_bytes mark relation =
    let ranges : List (ℕ × ℕ) = map ends_of relation.range_list.0 in
    let l = length-ranges ranges in
    let m = length-map relation.range_list.0 ends_of in
    omega (arith, l, m)
