-- The members of a part.
use Rattle.std.proofs.Common.{◌≡◌, ◌↔◌, List, [], ◌∷◌, Bool, true, false, not, IsTrue, length, Some, refl, arith, String}
use Rattle.std.specs.declared.alloc.Global.{Global}
use Rattle.catalog_commands.specs.LocaleMessages.{has_members}
use Rattle.serde_json.specs.View.{members_view}
use Rattle.serde_json.specs.declared.value.Value.{Value}

-- a part has members if it isn't empty
pub members_if : (entries : List (String Global × Value)) (empty : Bool) → (IsTrue empty ↔ length entries ≡ 0)
    → not empty ≡ has_members (Some (members_view entries))
members_if [] true is = refl
members_if [] false is = let yes : false ≡ true = is.1 refl in cc
members_if (entry ∷ entries) true is = let none : length (entry ∷ entries) ≡ 0 = is.0 refl in absurd (omega arith)
members_if (entry ∷ entries) false is = refl
