-- Not a definition of the subject: the relations of a text, packed as they are read.
--     cut lengths bytes      the items with these lengths
--     HoldsPacked relations before ranges      the bytes of the relations that were read, one after
--         another, and those of the ranges of the next one
use Rattle.std.specs.Prelude.{◌≡◌, ℕ, Bool, true, false, List, [], ◌∷◌, map, flat_map, take, drop, length}
use Rattle.std.specs.List.{concat}
use Rattle.plural_reference.specs.declared.ast.RangeListItem.{RangeListItem}
use Rattle.plural_reference.specs.RelationSinks.{Before, condition_of}
use Rattle.plural_reference.specs.Truth.{ends_of}
use Rattle.plural_runtime.specs.declared.kinds.AndOr.{AndOr}
use Rattle.plural_runtime.specs.declared.kinds.AndOr.TheVariants.{And, Or}
use Rattle.plural_runtime.specs.PackedRelations.{range_bytes, relation_bytes}
use Rattle.plural_runtime.specs.PackedTree.{packed}
use Rattle.plural_runtime.specs.declared.text_bytes.TextRelations.{TextRelations}

abbrev pub cut : List ℕ → List ℕ → List (List ℕ)
cut [] bytes = []
cut (n ∷ ns) bytes = take n bytes ∷ cut ns (drop n bytes)

-- the mark of a relation: after `or` it begins an and-condition
abbrev pub mark : Bool → AndOr
mark false = And
mark true = Or

-- no and-condition is complete before the open one has a relation
abbrev pub IsOpenLast : Before → Type 0
IsOpenLast before = before.relations ≡ [] → before.groups ≡ []

pub record HoldsPacked (relations : TextRelations) (before : Before) (ranges : List RangeListItem) : Type 0 where
  pub bytes : relations.bytes.items ≡ concat (map relation_bytes (packed (condition_of before)))
  pub lengths : relations.lengths.items ≡ map (λ item. length item) (map relation_bytes (packed (condition_of before)))
  pub open_last : IsOpenLast before
  pub next : relations.ranges.items ≡ flat_map range_bytes (map ends_of ranges)
