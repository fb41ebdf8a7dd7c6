-- Not a definition of the subject: numbers of rules that no earlier rule has, and the digits that are
-- left of a fraction, for private contracts.
use Rattle.std.specs.Prelude.{◌≡◌, ℕ, ◌-◌, ◌/◌, ◌^◌, ◌<◌, ◌≤◌, ◌==◌, Bool, ◌&&◌, not, List, IsTrue, length}
use Rattle.std.specs.Int.{◌∣◌}
use Rattle.std.specs.List.{list_any}
use Rattle.plural_operands.specs.Operands.{Operands, of_whole}
use Rattle.plural_reference.specs.Truth.{tree_truth}
use Rattle.rule_notes.specs.LookedAtNumbers.{IsDecimal, IsLookedAt}
use Rattle.rule_notes.specs.declared.category_rule.CategoryRule.{CategoryRule}

abbrev pub is_taken_at : List CategoryRule → Operands → Bool
is_taken_at earlier number = list_any (λ rule. tree_truth number rule.condition) earlier

abbrev pub is_own : List CategoryRule → CategoryRule → Operands → Bool
is_own earlier rule number = tree_truth number rule.condition && not (is_taken_at earlier number)

-- a condition has no relation, and is true of every number
abbrev pub has_all : List CategoryRule → Bool
has_all earlier = list_any (λ rule. length rule.condition.0 == 0) earlier

pub record HasOwn (earlier : List CategoryRule) (rule : CategoryRule) : Type 0 where
  pub number : Operands
  pub looked_at : IsLookedAt number
  pub own : IsTrue (is_own earlier rule number)

-- one among the whole numbers from a start on and before an end
abbrev pub HasOwnWhole : List CategoryRule → CategoryRule → ℕ → ℕ → Type 0
HasOwnWhole earlier rule start end = (n : ℕ) × (start ≤ n) × (n < end) × IsTrue (is_own earlier rule (of_whole n))

-- one among the decimals below 100 with so many places
abbrev pub HasOwnDecimal : List CategoryRule → CategoryRule → ℕ → Type 0
HasOwnDecimal earlier rule places = (number : Operands) × IsDecimal places number × IsTrue (is_own earlier rule number)

-- of the places the last ones without zeros, and what their digits write
pub record AreDigitsLeft (places written left kept : ℕ) : Type 0 where
  pub divides : 10 ^ (places - left) ∣ written
  pub least : (k : ℕ) → 10 ^ (places - k) ∣ written → left ≤ k
  pub number : kept ≡ written / 10 ^ (places - left)
