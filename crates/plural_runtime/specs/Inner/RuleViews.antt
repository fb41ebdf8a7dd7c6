-- What contracts see of borrowed relations, and of a tree while it is made or packed. Not a
-- definition of the subject.
use Rattle.plural_runtime.specs.declared.relation.RelationULE.{RelationULE}
use Rattle.plural_runtime.specs.declared.relation.Relation.{Relation}
use Rattle.plural_runtime.specs.PackedRelations.{PackedRelation}
use Rattle.plural_runtime.specs.RuleKinds.{operator_of, tree_operand_of}
use Rattle.plural_runtime.specs.Inner.RuleReading.{relation_in, ranges_in}
use Rattle.std.specs.Prelude.{List, [], ◌∷◌, ◌++◌, map, flat_map}
use Rattle.plural_reference.specs.declared.ast.Relation.{Relation as TreeRelation}
use Rattle.plural_runtime.specs.declared.kinds.AndOr.{AndOr}
use Rattle.plural_runtime.specs.declared.kinds.AndOr.TheVariants.{And, Or}
use Rattle.plural_reference.specs.declared.ast.AndCondition.{AndCondition}
use Rattle.plural_runtime.specs.declared.tree_bytes.TreeRelations.{TreeRelations}
use Rattle.plural_runtime.specs.PackedTree.{packed_and_condition}

-- the relation of an item's bytes
abbrev pub item_relation : RelationULE → PackedRelation
item_relation item = relation_in item.bytes.now

-- the relation that is borrowed
abbrev pub lent_relation : Relation → PackedRelation
lent_relation relation = record {
  and_or = relation.kind.and_or;
  meaning = record {
    operand = tree_operand_of relation.kind.operand;
    modulus = relation.modulo;
    operator = operator_of relation.kind.polarity;
    ranges = ranges_in relation.ranges.now;
  };
}

-- ---- The groups of a tree while it is made

-- at Or the open group of a tree is done
abbrev pub done_before : AndOr → List (List TreeRelation) → List TreeRelation → List (List TreeRelation)
done_before And done group = done
done_before Or done group = done ++ group ∷ []

abbrev pub open_before : AndOr → List TreeRelation → List TreeRelation
open_before And group = group
open_before Or group = []

-- ---- The remaining relations of a tree while it is packed

-- those of the and-condition that is open, and those of the others
abbrev pub relations_left : TreeRelations → List PackedRelation
relations_left walk = packed_and_condition walk.and_or walk.relations.now
    ++ flat_map (packed_and_condition Or) (map (λ (group : AndCondition). group.0) walk.others.now)
