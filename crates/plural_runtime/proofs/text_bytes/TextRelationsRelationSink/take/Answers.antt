use Rattle.std.proofs.Common.{◌∙◌, ◌-◌, [], ◌∷◌, ◌++◌, ap, length}
use Rattle.plural_reference.specs.RelationSinks.{relation_of_parts}
use Rattle.plural_runtime.specs.declared.kinds.AndOr.{AndOr}
use Rattle.plural_runtime.specs.PackedRelations.{relation_bytes}
use Rattle.plural_runtime.specs.PackedTree.{packed_relation}
use Rattle.plural_runtime.specs.Inner.TextItems.{mark}
use Rattle.plural_runtime.proofs.texts.TextItems.{holds_joined, written_is, written_length}
use Rattle.plural_runtime.proofs.text_bytes.TextRelationsRelationSink.take.Goals as goal

pub returns : goal.returns
returns c before ranges h =
    let old = c.args.self.now in
    let new = c.extend_from_slice-2.new.self.items in
    let relation = relation_of_parts c.args.expression c.args.operator ranges in
    let item = relation_bytes (packed_relation (mark c.args.is_after_or) relation) in
    let bytes = written_is old.bytes.items c.head_of-head.result c.as_slice.result.now c.extend_from_slice.new.self.items new
    c.mark.result c.args.expression c.args.operator ranges
    (c.in_ok-extend_from_slice.ensures.items ∙ ap (λ xs. xs ++ c.head_of-head.result) c.in_ok-make_room.ensures)
    c.in_ok-extend_from_slice-2.ensures.items c.head_of-head.ensures (c.as_slice.ensures ∙ h.next)
    ∙ ap (λ (m : AndOr). old.bytes.items ++ relation_bytes (packed_relation m relation)) c.mark.ensures in
    let count = ap (λ xs. length xs - length c.as_slice-start.result.now) c.as_slice-2.ensures.value
    ∙ ap (λ xs. length new - length xs) (c.as_slice-start.ensures.value ∙ c.in_ok-make_room.ensures)
    ∙ written_length old.bytes.items new item bytes in
    holds_joined old _ c.args.is_after_or before ranges relation bytes
    (c.in_ok-push.ensures.ok ∙ ap (λ n. old.lengths.items ++ n ∷ []) count) c.clear.ensures.items h
