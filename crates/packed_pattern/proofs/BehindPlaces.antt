-- Places in parts of which some were passed.
use Rattle.std.proofs.Common.{◌≡◌, ◌+◌, ◌-◌, ℕ, zero, suc, refl, arith}
use Rattle.std.proofs.lemmas.Bool.Decides.{nat_tests}
use Rattle.packed_part.specs.PartPlaces.{one_more}
use Rattle.packed_part.specs.Inner.PartViews.{behind}

-- one part more was passed
pub behind_more : (count place : ℕ) → behind (count + 1) place ≡ behind count (one_more place)
behind_more count zero = refl
behind_more count (suc place) = grind (arith, nat_tests)

-- counted from there on it is the place
pub behind_less : (count place : ℕ) → behind count place - count ≡ place
behind_less count zero = omega arith
behind_less count (suc place) = grind (arith, nat_tests)
