use Rattle.std.proofs.Common.{◌≡◌, ◌∙◌, sym, true}
use Rattle.plural_base.specs.Categories.{name_of}
use Rattle.packed_pattern.specs.Inner.PlacesAhead.{placed_view}
use Rattle.packed_pattern.specs.Inner.PartReading.{is_plural}
use Rattle.packed_format.proofs.PlacesRead.{word_there}
use Rattle.packed_format.proofs.branches.branch_of_category.Goals as goal

pub returns-then-is_plural-clause-branch : goal.returns-then-is_plural-clause-branch
returns-then-is_plural-clause-branch c =
    let plural : is_plural (placed_view c.args.begin.now).part.piece ≡ true =
    sym c.is_plural.ensures ∙ c.if-is_plural.true in
    c.place_behind.ensures.parts
    ∙ word_there (placed_view c.args.begin.now) c.args.pattern.now c.args.index c.category_index.result c.place.result
    (name_of c.args.category) c.requires.placed plural c.category_index.ensures c.place.ensures.place
