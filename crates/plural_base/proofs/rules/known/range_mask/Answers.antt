use Rattle.std.proofs.Common.{◌∙◌, ℕ, ap}
use Rattle.plural_reference.specs.Truth.{range_holds}
use Rattle.plural_base.proofs.rules.known.range_mask.Goals as goal

pub returns : goal.returns
returns c = λ k h. c.between.ensures k h ∙ ap (λ (pair : ℕ × ℕ). range_holds k pair) c.ends_at-start.ensures
