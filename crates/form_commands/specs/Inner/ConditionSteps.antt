-- Not a definition of the subject: what is appended, piece by piece.
use Rattle.std.specs.Prelude.{◌≡◌, ℕ, List, [], ◌∷◌, ◌++◌, map, codes, Bool, true, false, string_bytes}
use Rattle.std.specs.List.{list_all}
use Rattle.icu_plurals.specs.PackedRelations.{PackedRelation}
use Rattle.icu_plurals.specs.declared.provider.rules.runtime.ast.AndOr.{AndOr}
use Rattle.icu_plurals.specs.declared.provider.rules.runtime.ast.AndOr.TheVariants.{And, Or}
use Rattle.form_commands.specs.CExpressions.{and_text, atom_text, joined_by}
use Rattle.form_commands.specs.RuleConditions.{atoms_of_group, conditions_of_groups, is_possible}
use Rattle.form_commands.specs.declared.c_condition.Group.{Group}
use Rattle.form_commands.specs.declared.joined.Joined.{Joined}

-- ---- a text has grown

-- by a text of this kind
abbrev pub Grows : (List ℕ → Type 0) → List ℕ → List ℕ → Type 0
Grows Is old new = (more : List ℕ) × Is more × (new ≡ old ++ more)

abbrev pub is_begun : List (List ℕ) → Bool
is_begun [] = false
is_begun (piece ∷ pieces) = true

-- these pieces are joined
pub record AreJoined (separator : List ℕ) (pieces : List (List ℕ)) (joined : Joined) : Type 0 where
  pub text : string_bytes joined.text ≡ joined_by separator pieces
  pub is_begun : joined.is_begun ≡ is_begun pieces

-- more pieces are appended
abbrev pub Joins : List ℕ → List (List ℕ) → Joined → Joined → Type 0
Joins separator more old new = (pieces : List (List ℕ)) → AreJoined separator pieces old → AreJoined separator (pieces ++ more) new

-- the relations of a group
pub record IsGroup (relations : List PackedRelation) (group : Group) : Type 0 where
  pub atoms : AreJoined (codes " && ") (map atom_text (atoms_of_group relations)) group.atoms
  pub is_possible : group.is_possible ≡ list_all is_possible relations

-- the texts of groups
abbrev pub group_texts : List (List PackedRelation) → List (List ℕ)
group_texts groups = map (λ all. and_text (map atom_text all)) (conditions_of_groups groups)

-- the groups that have ended, and the one that is open
pub record AreCut (done : List (List PackedRelation)) (group : List PackedRelation) (ended : Joined) (current : Group) : Type 0 where
  pub are_ended : AreJoined (codes " || ") (group_texts done) ended
  pub is_current : IsGroup group current

-- those before a relation
abbrev pub groups_ended_before : AndOr → List (List PackedRelation) → List PackedRelation → List (List PackedRelation)
groups_ended_before And done group = done
groups_ended_before Or done group = done ++ group ∷ []

abbrev pub begun_before : AndOr → List PackedRelation → List PackedRelation
begun_before And group = group
begun_before Or group = []
