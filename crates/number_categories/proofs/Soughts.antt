-- The categories whose numbers are sought.
use Rattle.std.proofs.Common.{◌≡◌, ◌≢◌, ℕ, zero, suc, List, [], ◌∷◌, Bool, arith, subst}
use Rattle.std.specs.Prelude.{Contains, IsTrue}
use Rattle.plural_base.specs.FiveRules.{FiveRules, categories_of}
use Rattle.plural_base.specs.Operands.{of_whole}
use Rattle.plural_base.specs.PackedTruth.{packed_truth}
use Rattle.plural_base.specs.declared.category.PluralCategory.{PluralCategory}
use Rattle.plural_base.proofs.choice.Members.{first_category-member}
use Rattle.number_categories.specs.WholeNumbers.{HasWhole, least_at}
use Rattle.number_categories.specs.Inner.SoughtNumbers.{AreFound, IsFound, is_sought}
use Rattle.number_categories.specs.declared.least_numbers.LeastNumbers.{LeastNumbers}
use Rattle.number_categories.specs.declared.sought.Sought.{Sought}

pub none_left : (c : PluralCategory) → Contains [] c → ⊥
none_left c (k, within, is) = omega arith

-- what isn't the first is behind it
pub is_behind : (first c : PluralCategory) (rest : List PluralCategory) → first ≢ c → Contains (first ∷ rest) c → Contains rest c
is_behind first c rest other (zero, within, is) = absurd (other is)
is_behind first c rest other (suc k, within, is) = (k, omega arith, is)

-- where those of each category that rules have are sought, those of all are found
module _ (rules : FiveRules) (sought : Sought) (least : LeastNumbers)
    (each : (c : PluralCategory) → Contains (categories_of rules) c → IsTrue (is_sought sought c)) (found : AreFound rules sought least)
  where
    of_all : (c : PluralCategory) (n : ℕ) → HasWhole rules c n → IsTrue (is_sought sought c)
    of_all c n has = each c (subst (Contains (categories_of rules)) has (first_category-member (packed_truth (of_whole n)) rules))

    pub found_of_each : (start : ℕ) (alone : Bool) → sought.start ≡ start → sought.first_alone ≡ alone → (c : PluralCategory)
        → IsFound alone rules c start (least_at least c)
    found_of_each start alone same one c =
        subst (λ (b : Bool). IsFound b rules c start (least_at least c)) one
        (subst (λ (s : ℕ). IsFound sought.first_alone rules c s (least_at least c)) same (found.at c (of_all c)))
