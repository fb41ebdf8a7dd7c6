use Rattle.std.proofs.Common.{◌∙◌, ap, sym}
use Rattle.std.specs.List.{list_any}
use Rattle.plural_reference.specs.Truth.{ends_of, range_holds}
use Rattle.plural_reference.proofs.exactness.Folds.{list_any-map}
use Rattle.plural_reference.proofs.resolver.contains.Goals as goal

pub returns : goal.returns
returns c = c.any_holds.ensures
    ∙ ap (list_any (λ item. range_holds c.args.value (ends_of item))) c.as_slice.ensures
    ∙ sym (list_any-map (range_holds c.args.value) ends_of c.args.list.now.0)
