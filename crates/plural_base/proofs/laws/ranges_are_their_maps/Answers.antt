use Rattle.plural_base.specs.Ranges.{at}
use Rattle.plural_base.proofs.encoding.RawCategories.{same_things}
use Rattle.plural_base.proofs.laws.ranges_are_their_maps.Goals as goal

pub returns : goal.returns
returns c = λ ranges others same.
    same_things ranges others (λ start. same_things (at ranges start) (at others start) (same start))
