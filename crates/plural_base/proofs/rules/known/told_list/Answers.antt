use Rattle.std.proofs.Common.{◌≡◌, ◌∙◌, ◌<◌, ap, sym, subst, false, true}
use Rattle.plural_reference.specs.Truth.{is_in_ranges, remainder}
use Rattle.plural_runtime.specs.Inner.RuleViews.{lent_relation}
use Rattle.plural_base.specs.declared.rules.known.Known.{Known}
use Rattle.plural_base.specs.Inner.WholeNumbers.{Fits, IsToldIf, is_list_told}
use Rattle.plural_base.proofs.integers.Bits.{remainder-below}
use Rattle.plural_base.proofs.integers.KnownLists.{list_told}
use Rattle.plural_base.proofs.integers.Told.{told_as}
use Rattle.plural_base.proofs.rules.known.told_list.Goals as goal

pub returns-in-RemainderBy : goal.returns-in-RemainderBy
returns-in-RemainderBy c = λ class value h fits.
    let m = c.in-RemainderBy.modulus in
    let ranges = (lent_relation c.args.relation.now).meaning.ranges in
    let left : value ≡ remainder m class = subst (λ known. Fits known class value) c.in-RemainderBy.is fits in
    let within : remainder m class < 128 = remainder-below m class 128 h in
    let same = c.repeated.ensures class h ∙ c.ranges_mask.ensures (remainder m class) within ∙ ap (is_in_ranges ranges) (sym left) in
    let P : Known → Type 0 = λ known. IsToldIf class (is_list_told known class ranges) (is_in_ranges ranges value) c.told_exactly.result in
    subst P (sym c.in-RemainderBy.is) (told_as class _ _ _ _ c.told_exactly.result same same (c.told_exactly.ensures class h))

pub returns-in-IsZero : goal.returns-in-IsZero
returns-in-IsZero c = λ class value h fits.
    let ranges = (lent_relation c.args.relation.now).meaning.ranges in
    told_as class _ _ _ _ c.told_each.result
    (list_told c.args.known class value false ranges fits) (list_told c.args.known class value true ranges fits)
    (c.told_each.ensures class value h fits)
