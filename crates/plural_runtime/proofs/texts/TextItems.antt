-- The relations of a text that are packed as they are read are those of its condition.
use Rattle.std.proofs.Common.{◌≡◌, ◌∙◌, ◌-◌, ℕ, arith, Bool, true, false, List, [], ◌∷◌, ◌++◌, length, map, refl, sym, ap}
use Rattle.std.specs.Prelude.{flat_map}
use Rattle.std.specs.Int.{w32, to_le_bytes}
use Rattle.std.specs.List.{concat}
use Rattle.std.proofs.Math.Seq.{take-append_seam, drop-append_seam}
use Rattle.std.proofs.lemmas.Grind.{flat_map-append}
use Rattle.std.proofs.lemmas.List.{append-nil, append_assoc, length-append, map-append}
use Rattle.std.proofs.lemmas.List.Folds.{concat-append}
use Rattle.plural_reference.specs.declared.ast.AndCondition.{AndCondition}
use Rattle.plural_reference.specs.declared.ast.RangeListItem.{RangeListItem}
use Rattle.plural_reference.specs.declared.ast.Relation.{Relation}
use Rattle.plural_reference.specs.declared.ast.Expression.{Expression}
use Rattle.plural_reference.specs.declared.ast.Operator.{Operator}
use Rattle.plural_reference.specs.RelationSinks.{Before, nothing, joined, condition_of, relation_of_parts}
use Rattle.plural_reference.specs.Truth.{ends_of, modulus_of}
use Rattle.plural_runtime.specs.declared.kinds.AndOr.{AndOr}
use Rattle.plural_runtime.specs.declared.kinds.AndOr.TheVariants.{And, Or}
use Rattle.plural_runtime.specs.declared.text_bytes.TextRelations.{TextRelations}
use Rattle.plural_runtime.specs.PackedRelations.{PackedRelation, first_byte, range_bytes, relation_bytes}
use Rattle.plural_runtime.specs.PackedTree.{packed, packed_groups, packed_and_condition, packed_relation}
use Rattle.plural_runtime.specs.Inner.TextItems.{cut, mark, HoldsPacked, IsOpenLast}

-- ---- what is cut by the lengths of its parts

-- items that are joined are cut by their lengths into the items
pub cut_all : (items : List (List ℕ)) → cut (map (λ item. length item) items) (concat items) ≡ items
cut_all [] = refl
cut_all (item ∷ items) =
    rw (take-append_seam item (concat items), drop-append_seam item (concat items), cut_all items) refl

-- ---- one more relation

-- the relations of a list of and-conditions
of_groups : List AndCondition → List PackedRelation
of_groups groups = packed_groups (map (λ (group : AndCondition). group.0) groups)

-- a further relation of an and-condition is marked And
longer : (first : AndOr) (x : Relation) (xs : List Relation) (r : Relation)
    → packed_and_condition first (x ∷ xs ++ r ∷ []) ≡ packed_and_condition first (x ∷ xs) ++ packed_relation And r ∷ []
longer first x xs r = ap (λ rest. packed_relation first x ∷ rest) (map-append (packed_relation And) xs (r ∷ []))

-- the relations behind the first and-condition
behind : List AndCondition → List PackedRelation
behind groups = flat_map (packed_and_condition Or) (map (λ (group : AndCondition). group.0) groups)

behind-append : (groups : List AndCondition) (xs : List Relation)
    → behind (groups ++ (record { 0 = xs }) ∷ []) ≡ behind groups ++ packed_and_condition Or xs
unfolding behind
behind-append groups xs =
    ap (flat_map (packed_and_condition Or)) (map-append (λ (group : AndCondition). group.0) groups ((record { 0 = xs }) ∷ []))
    ∙ flat_map-append (packed_and_condition Or) (map (λ (group : AndCondition). group.0) groups) (xs ∷ [])
    ∙ ap (λ ys. behind groups ++ ys) (append-nil (packed_and_condition Or xs))

-- a relation joins the last and-condition
last_longer : (groups : List AndCondition) (x : Relation) (xs : List Relation) (r : Relation)
    → of_groups (groups ++ (record { 0 = x ∷ xs ++ r ∷ [] }) ∷ [])
    ≡ of_groups (groups ++ (record { 0 = x ∷ xs }) ∷ []) ++ packed_relation And r ∷ []
unfolding of_groups behind
last_longer [] x xs r =
    append-nil (packed_and_condition And (x ∷ xs ++ r ∷ [])) ∙ longer And x xs r
    ∙ ap (λ ys. ys ++ packed_relation And r ∷ []) (sym (append-nil (packed_and_condition And (x ∷ xs))))
last_longer (g ∷ groups) x xs r =
    ap (λ ys. packed_and_condition And g.0 ++ ys)
    (behind-append groups (x ∷ xs ++ r ∷ []) ∙ ap (λ ys. behind groups ++ ys) (longer Or x xs r)
    ∙ sym (append_assoc (behind groups) (packed_and_condition Or (x ∷ xs)) (packed_relation And r ∷ []))
    ∙ ap (λ ys. ys ++ packed_relation And r ∷ []) (sym (behind-append groups (x ∷ xs))))
    ∙ sym (append_assoc (packed_and_condition And g.0) (behind (groups ++ (record { 0 = x ∷ xs }) ∷ [])) (packed_relation And r ∷ []))

-- an and-condition of one relation behind others
one_more : (g : AndCondition) (groups : List AndCondition) (r : Relation)
    → of_groups ((g ∷ groups) ++ (record { 0 = r ∷ [] }) ∷ []) ≡ of_groups (g ∷ groups) ++ packed_relation Or r ∷ []
unfolding of_groups behind
one_more g groups r =
    ap (λ ys. packed_and_condition And g.0 ++ ys) (behind-append groups (r ∷ []))
    ∙ sym (append_assoc (packed_and_condition And g.0) (behind groups) (packed_relation Or r ∷ []))

joined_at : (is_after_or : Bool) (gs : List AndCondition) (rs : List Relation) (r : Relation) → (rs ≡ [] → gs ≡ [])
    → packed (condition_of (joined is_after_or (record { groups = gs; relations = rs }) r))
    ≡ packed (condition_of (record { groups = gs; relations = rs })) ++ packed_relation (mark is_after_or) r ∷ []
unfolding packed of_groups
joined_at false [] [] r o = refl
joined_at false (g ∷ gs) [] r o = let e = o refl in cc
joined_at false gs (x ∷ xs) r o = last_longer gs x xs r
joined_at true [] [] r o = refl
joined_at true (g ∷ gs) [] r o = let e = o refl in cc
joined_at true [] (x ∷ xs) r o = one_more (record { 0 = x ∷ xs }) [] r
joined_at true (g ∷ gs) (x ∷ xs) r o = one_more g (gs ++ (record { 0 = x ∷ xs }) ∷ []) r

-- a relation that is read is packed behind the others
packed_joined : (is_after_or : Bool) (b : Before) (r : Relation) → IsOpenLast b
    → packed (condition_of (joined is_after_or b r)) ≡ packed (condition_of b) ++ packed_relation (mark is_after_or) r ∷ []
packed_joined is_after_or b r open_last = joined_at is_after_or b.groups b.relations r open_last

-- ---- what is held

-- nothing at first
pub holds_nothing : (relations : TextRelations) → relations.bytes.items ≡ [] → relations.lengths.items ≡ []
    → relations.ranges.items ≡ [] → HoldsPacked relations nothing []
unfolding packed
holds_nothing relations b l r = record { bytes = b; lengths = l; open_last = λ h. refl; next = r }

-- a list with an element at its end isn't empty
not_empty : (xs : List Relation) (r : Relation) → xs ++ r ∷ [] ≡ [] → ⊥
not_empty [] r e = cc
not_empty (x ∷ xs) r e = cc

-- one relation more
pub holds_joined : (old new : TextRelations) (is_after_or : Bool) (before : Before) (ranges : List RangeListItem) (r : Relation)
    → new.bytes.items ≡ old.bytes.items ++ relation_bytes (packed_relation (mark is_after_or) r)
    → new.lengths.items ≡ old.lengths.items ++ length (relation_bytes (packed_relation (mark is_after_or) r)) ∷ []
    → new.ranges.items ≡ [] → HoldsPacked old before ranges → HoldsPacked new (joined is_after_or before r) []
holds_joined old new is_after_or before ranges r b l no_ranges h =
    let relation = packed_relation (mark is_after_or) r in
    let item = relation_bytes relation in
    let items = map relation_bytes (packed (condition_of before)) in
    let m : map relation_bytes (packed (condition_of (joined is_after_or before r))) ≡ items ++ item ∷ [] =
    ap (map relation_bytes) (packed_joined is_after_or before r h.open_last)
    ∙ map-append relation_bytes (packed (condition_of before)) (relation ∷ []) in
    record {
      bytes = b ∙ ap (λ xs. xs ++ item) h.bytes
          ∙ sym (concat-append items (item ∷ []) ∙ ap (λ ys. concat items ++ ys) (append-nil item))
          ∙ ap concat (sym m);
      lengths = l ∙ ap (λ xs. xs ++ length item ∷ []) h.lengths
          ∙ sym (map-append (λ xs. length xs) items (item ∷ []))
          ∙ ap (map (λ xs. length xs)) (sym m);
      open_last = λ e. absurd (not_empty _ r e);
      next = no_ranges;
    }

-- the items are those of the condition
pub cut_is : (relations : TextRelations) (before : Before) → HoldsPacked relations before []
    → cut relations.lengths.items relations.bytes.items ≡ map relation_bytes (packed (condition_of before))
cut_is relations before h =
    ap (λ ns. cut ns relations.bytes.items) h.lengths
    ∙ ap (cut (map (λ item. length item) (map relation_bytes (packed (condition_of before))))) h.bytes
    ∙ cut_all (map relation_bytes (packed (condition_of before)))

-- one range more
pub holds_range : (old new : TextRelations) (before : Before) (ranges : List RangeListItem) (range : RangeListItem)
    → new.bytes.items ≡ old.bytes.items → new.lengths.items ≡ old.lengths.items
    → new.ranges.items ≡ old.ranges.items ++ range_bytes (ends_of range)
    → HoldsPacked old before ranges → HoldsPacked new before (ranges ++ range ∷ [])
holds_range old new before ranges range b l r h = record {
  bytes = b ∙ h.bytes;
  lengths = l ∙ h.lengths;
  open_last = h.open_last;
  next = r ∙ ap (λ xs. xs ++ range_bytes (ends_of range)) h.next
      ∙ sym (ap (flat_map range_bytes) (map-append ends_of ranges (range ∷ []))
      ∙ flat_map-append range_bytes (map ends_of ranges) (ends_of range ∷ [])
      ∙ ap (λ xs. flat_map range_bytes (map ends_of ranges) ++ xs) (append-nil (range_bytes (ends_of range))));
}

-- the bytes of a relation are its head and its ranges
pub relation_bytes_of : (m : AndOr) (e : Expression) (op : Operator) (ranges : List RangeListItem)
    → relation_bytes (packed_relation m (relation_of_parts e op ranges))
    ≡ (first_byte m op e.operand ∷ to_le_bytes w32 (modulus_of e.modulus)) ++ flat_map range_bytes (map ends_of ranges)
unfolding relation_bytes
relation_bytes_of m e op ranges = refl

-- what is written behind some bytes is the relation
pub written_is : (old head next middle new : List ℕ) (m : AndOr) (e : Expression) (op : Operator) (ranges : List RangeListItem)
    → middle ≡ old ++ head → new ≡ middle ++ next
    → head ≡ first_byte m op e.operand ∷ to_le_bytes w32 (modulus_of e.modulus)
    → next ≡ flat_map range_bytes (map ends_of ranges)
    → new ≡ old ++ relation_bytes (packed_relation m (relation_of_parts e op ranges))
written_is old head next middle new m e op ranges a b h n =
    b ∙ ap (λ xs. xs ++ next) a ∙ append_assoc old head next
    ∙ ap (λ xs. old ++ xs) (ap (λ xs. xs ++ next) h
    ∙ ap (λ xs. (first_byte m op e.operand ∷ to_le_bytes w32 (modulus_of e.modulus)) ++ xs) n
    ∙ sym (relation_bytes_of m e op ranges))

-- so many bytes
pub written_length : (old new item : List ℕ) → new ≡ old ++ item → length new - length old ≡ length item
written_length old new item h = let l = length-append old item in omega (arith, ap length h, l)
