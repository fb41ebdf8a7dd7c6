-- The texts of an object's members, found one by one.
use Rattle.std.proofs.Common.{◌≡◌, ℕ, List, [], ◌∷◌, ◌++◌, Some, None, Result, Ok, Err, inr, subst, sym, ◌∙◌}
use Rattle.std.proofs.lemmas.List.{append_assoc, append-nil}
use Rattle.std.specs.Prelude.{◌≢◌, IfErr}
use Rattle.message_catalog.specs.MessagePacking.{KeyedText}
use Rattle.catalog_commands.specs.DocumentPatterns.{AreTextsOf, IsFirstNoText}
use Rattle.catalog_commands.specs.declared.fault.PatternsFault.{PatternsFault}
use Rattle.catalog_commands.specs.declared.fault.PatternsFault.TheVariants.{NoObject}
use Rattle.serde_json.specs.Data.{Data, Members, no_members, member}
use Rattle.serde_json.specs.Find.{as_object, as_str}

-- the texts of the remaining members complete those so far, and the first of them without a text is the first of all
pub record Completes (left all : Members) (found : List KeyedText) : Type 0 where
  pub texts : (more : List KeyedText) → AreTextsOf left more → AreTextsOf all (found ++ more)
  pub first : (key : List ℕ) → IsFirstNoText left key → IsFirstNoText all key

-- before the first member
pub begins : (all : Members) → Completes all all []
begins all = record { texts = λ more are. are; first = λ key is. is }

-- a member with a text
pub goes_on : (key : List ℕ) (value : Data) (left all : Members) (found : List KeyedText) (keyed : KeyedText) → keyed.key ≡ key
    → as_str value ≡ Some keyed.text → Completes (member key value left) all found → Completes left all (found ++ keyed ∷ [])
goes_on key value left all found keyed k t h = record {
  texts = λ more are. subst (AreTextsOf all) (sym (append_assoc found (keyed ∷ []) more)) (h.texts (keyed ∷ more) (k, t, are));
  first = λ other is. h.first other (inr ((λ none. absurd (cc)), is));
}

-- behind the last member
pub ends : (all : Members) (found : List KeyedText) → Completes no_members all found → AreTextsOf all found
ends all found h = subst (AreTextsOf all) (append-nil found) (h.texts [] (record {}))

-- a fault that texts tell isn't that there is no object
pub of_an_object : {A : Type 0} (r : Result A PatternsFault) (Tells : PatternsFault → Type 0) → (Tells NoObject → ⊥) → IfErr r Tells
    → r ≢ Err NoObject
of_an_object (Ok x) Tells never told is = cc
of_an_object (Err e) Tells never told is = let same : e ≡ NoObject = cc in never (subst Tells same told)

-- an object is there if its members are
pub members_there : (value : Data) (members : Members) → Some members ≡ as_object value → as_object value ≢ None
members_there value found some none = let clash = some ∙ none in cc
