use Rattle.std.proofs.Common.{◌≡◌, ◌≤◌, ◌<◌, ℕ, ◌%◌, ◌∙◌, sym, ap, subst, false, true}
use Rattle.std.specs.Prelude.{not, nat_lt}
use Rattle.plural_base.specs.declared.rules.known.Known.{Known}
use Rattle.plural_base.specs.Inner.Masks.{IsToldAt}
use Rattle.plural_base.specs.Inner.WholeNumbers.{Fits, range_or}
use Rattle.plural_base.specs.declared.rules.told_masks.Told.{Told}
use Rattle.plural_reference.specs.Truth.{range_holds, remainder}
use Rattle.plural_base.proofs.integers.Bits.{remainder-below}
use Rattle.plural_base.proofs.integers.KnownLists.{below_outside, only_outside}
use Rattle.plural_base.proofs.integers.Residues.{holds_zero}
use Rattle.plural_base.proofs.integers.Told.{told_as}
use Rattle.plural_base.proofs.rules.known.told_between.Goals as goal

-- what is told of a range by what is known
abbrev IsRangeTold : ℕ → ℕ → ℕ × ℕ → Told → Known → Type 0
IsRangeTold class value range told known = IsToldAt class (range_or false known class value range) (range_or true known class value range) told

pub returns-in-IsZero : goal.returns-in-IsZero
returns-in-IsZero c = λ k value h fits.
    let zero : value ≡ 0 = subst (λ known. Fits known k value) c.in-IsZero.is fits in
    let same = sym (holds_zero c.args.start c.args.end) ∙ ap (λ n. range_holds n (c.args.start, c.args.end)) (sym zero) in
    subst (IsRangeTold k value (c.args.start, c.args.end) c.told_alike.result) (sym c.in-IsZero.is)
    (told_as k _ _ _ _ c.told_alike.result same same (c.told_alike.ensures k h))

pub returns-in-RemainderBy : goal.returns-in-RemainderBy
returns-in-RemainderBy c = λ k value h fits.
    let m = c.in-RemainderBy.modulus in
    let left : value ≡ remainder m k = subst (λ known. Fits known k value) c.in-RemainderBy.is fits in
    let within : remainder m k < 128 = remainder-below m k 128 h in
    let same = c.repeated.ensures k h ∙ c.between.ensures (remainder m k) within
    ∙ ap (λ n. range_holds n (c.args.start, c.args.end)) (sym left) in
    subst (IsRangeTold k value (c.args.start, c.args.end) c.told_exactly.result) (sym c.in-RemainderBy.is)
    (told_as k _ _ _ _ c.told_exactly.result same same (c.told_exactly.ensures k h))

pub returns-in-From : goal.returns-in-From
returns-in-From c = λ k value h fits.
    let least = c.in-From.least in
    let from : least ≤ value = subst (λ known. Fits known k value) c.in-From.is fits in
    let end : c.from.result ≡ c.args.end = c.from.ensures in
    let is = only_outside (nat_lt c.args.end least) (range_holds value (c.args.start, c.args.end))
    (below_outside k least value (c.args.start, c.args.end) from) in
    subst (IsRangeTold k value (c.args.start, c.args.end) c.refused_if.result) (sym c.in-From.is)
    (told_as k _ _ _ _ c.refused_if.result is.0 (ap (λ n. not (nat_lt n least)) end ∙ is.1) (c.refused_if.ensures k h))

pub returns-in-Leaves : goal.returns-in-Leaves
returns-in-Leaves c = λ k value h fits.
    let leaves : value % 100 ≡ k = subst (λ known. Fits known k value) c.in-Leaves.is fits in
    subst (IsRangeTold k value (c.args.start, c.args.end) c.told_of_residues.result) (sym c.in-Leaves.is)
    (c.told_of_residues.ensures k value h leaves)

pub returns-in-Nothing : goal.returns-in-Nothing
returns-in-Nothing c = λ k value h fits.
    subst (IsRangeTold k value (c.args.start, c.args.end) c.untold.result) (sym c.in-Nothing.is) (c.untold.ensures k)
