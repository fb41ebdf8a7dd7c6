-- Not a definition of the subject: what a tree holds while it is read.
use Rattle.std.specs.Prelude.{◌≡◌, List}
use Rattle.plural_reference.specs.RelationSinks.{Before}
use Rattle.plural_reference.specs.declared.ast.RangeListItem.{RangeListItem}
use Rattle.plural_reference.specs.declared.parser.tree.Tree.{Tree}

-- these and-conditions, these relations of the open one, and these ranges of the next relation
abbrev pub HoldsTree : Tree → Before → List RangeListItem → Type 0
HoldsTree tree before ranges =
    (tree.groups.items ≡ before.groups) × (tree.relations.items ≡ before.relations) × (tree.ranges.items ≡ ranges)
