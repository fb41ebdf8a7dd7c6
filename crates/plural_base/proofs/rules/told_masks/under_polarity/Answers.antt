use Rattle.std.proofs.Common.{sym, subst}
use Rattle.std.specs.Prelude.{false, true, if◌then◌else◌}
use Rattle.plural_reference.specs.Truth.{under}
use Rattle.plural_runtime.specs.declared.kinds.Polarity.{Polarity}
use Rattle.plural_runtime.specs.RuleKinds.{operator_of}
use Rattle.plural_base.specs.Inner.WholeNumbers.{IsToldIf}
use Rattle.plural_base.proofs.integers.Told.{turned_if}
use Rattle.plural_base.proofs.rules.told_masks.under_polarity.Goals as goal

pub returns-in-Positive : goal.returns-in-Positive
returns-in-Positive c = λ k told b is.
    let P : Polarity → Type 0 = λ polarity. IsToldIf k told (under (operator_of polarity) b) c.args.is_in in
    subst P (sym c.in-Positive.is) is

pub returns-in-Negative : goal.returns-in-Negative
returns-in-Negative c = λ k told b is.
    let P : Polarity → Type 0 = λ polarity. IsToldIf k told (under (operator_of polarity) b) c.negated.result in
    subst P (sym c.in-Negative.is)
    (turned_if k told b c.negated.result (c.negated.ensures k (if told then b else false) (if told then b else true) is))
