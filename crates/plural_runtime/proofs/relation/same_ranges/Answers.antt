use Rattle.std.proofs.Common.{◌∙◌, ap, sym}
use Rattle.std.specs.Prelude.{flat_map}
use Rattle.std.proofs.lemmas.Bool.Decides.{Decides-eqb}
use Rattle.std.proofs.lemmas.Slice.Eq.{slice_eq-Decides}
use Rattle.plural_runtime.specs.PackedRelations.{range_bytes}
use Rattle.plural_runtime.specs.Inner.RuleReading.{ranges_in}
use Rattle.plural_runtime.proofs.relation.same_ranges.Goals as goal

pub returns : goal.returns
returns c =
    let first = c.spelled_ranges.ensures in
    let second = c.spelled_ranges-2.ensures in
    let same = slice_eq-Decides Decides-eqb _ _ c.eq.result c.eq.ensures in (
      (λ h. ap ranges_in (sym first.same ∙ same.0 h ∙ second.same)),
      (λ h. same.1 (first.same ∙ sym first.spelled ∙ ap (flat_map range_bytes) h ∙ second.spelled ∙ sym second.same)),
    )
