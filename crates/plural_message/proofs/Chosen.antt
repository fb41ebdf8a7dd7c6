-- Which element a message has: the one that the kept operands of its number choose.
use Rattle.std.proofs.Common.{◌≡◌, ℕ, ◌∙◌, ap}
use Rattle.fixed_decimal.specs.Places.{Places}
use Rattle.icu_plurals.specs.Operands.{AreKept, Operands}
use Rattle.icu_plurals.specs.Elements.{IsKeptElement, Elements, element_at}
use Rattle.icu_plurals.specs.FiveRules.{FiveRules}
use Rattle.icu_plurals.specs.PackedElements.{PackedValue}

-- the element that the kept operands choose
pub kept_element : (e elements : Elements PackedValue) (rules : FiveRules) (x : Places) (exponent : ℕ) (kept : Operands) (element : PackedValue)
    → AreKept x exponent kept → element ≡ element_at e kept rules → e ≡ elements → IsKeptElement elements rules x exponent element
kept_element e elements rules x exponent kept element are_kept is same = (kept, are_kept, is ∙ ap (λ l. element_at l kept rules) same)
