use Rattle.std.proofs.Common.{◌≡◌, ◌∙◌, ap, true}
use Rattle.std.specs.Prelude.{◌==◌, not}
use Rattle.std.proofs.lemmas.Bool.{eqb-true}
use Rattle.plural_base.proofs.integers.Fractions.{no_whole_number, second_bit}
use Rattle.plural_base.proofs.integers.KnownLists.{only_outside}
use Rattle.plural_base.proofs.integers.Told.{told_as}
use Rattle.plural_base.proofs.rules.fractions.told_whole.Goals as goal

pub returns : goal.returns
returns c = λ class o ranges modulus h.
    let is = only_outside (class == 1) _ (λ (one : (class == 1) ≡ true). no_whole_number o ranges modulus (h.above (eqb-true class 1 one))) in
    told_as class _ _ _ _ c.told_false.result is.0 (ap not (second_bit class) ∙ is.1) (c.told_false.ensures class)
