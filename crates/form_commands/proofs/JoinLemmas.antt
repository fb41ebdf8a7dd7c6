-- Texts that are joined, and the groups of rules.
use Rattle.std.proofs.Common.{◌≡◌, ℕ, suc, ◌+◌, List, [], ◌∷◌, ◌++◌, map, take, drop, codes, refl, sym, ap, ◌∙◌, subst, append_assoc, arith}
use Rattle.std.specs.Prelude.{Some, Result, Ok, Err, OnOk, ⊤, length, slice_get, filter, Bool, true, false, ◌&&◌}
use Rattle.std.specs.declared.alloc.AllocError.{AllocError}
use Rattle.std.proofs.Math.Seq.{drop-cons}
use Rattle.std.proofs.lemmas.Bool.Decides.{nat_tests}
use Rattle.icu_plurals.specs.Truth.{is_in_ranges, range_holds, under}
use Rattle.std.specs.List.{list_all}
use Rattle.std.proofs.lemmas.List.{append-nil, map-append, take_more}
use Rattle.std.proofs.lemmas.Grind.{flat_map-append}
use Rattle.std.proofs.lemmas.List.Elements.{filter-append}
use Rattle.std.proofs.lemmas.List.Folds.{list_all-append}
use Rattle.std.proofs.lemmas.Option.{get_or_from_slice_get, slice_get_within}
use Rattle.icu_plurals.specs.PackedRelations.{PackedRelation, at_front, cut_before, groups}
use Rattle.icu_plurals.specs.declared.provider.rules.runtime.ast.AndOr.{AndOr}
use Rattle.icu_plurals.specs.declared.provider.rules.runtime.ast.AndOr.TheVariants.{And, Or}
use Rattle.form_commands.specs.CExpressions.{Atom, Comparison, and_text, atom_text, bracketed, compared, comparison_text}
use Rattle.form_commands.specs.RuleConditions.{atoms_of, atoms_of_group, atoms_under, conditions_of_groups, in_ranges, inside}
use Rattle.form_commands.specs.RuleConditions.{is_whole_operand, is_possible}
use Rattle.form_commands.specs.Inner.ConditionSteps.{AreCut, AreJoined, IsGroup, Joins, begun_before, groups_ended_before, group_texts}
use Rattle.form_commands.specs.declared.c_condition.Group.{Group}
use Rattle.form_commands.specs.declared.joined.Joined.{Joined}

-- ---- Pieces

-- more pieces after more pieces
pub joins_trans : (separator : List ℕ) (a b : List (List ℕ)) (old mid new : Joined) → Joins separator a old mid → Joins separator b mid new
    → Joins separator (a ++ b) old new
joins_trans separator a b old mid new first second = λ pieces is.
    subst (λ (p : List (List ℕ)). AreJoined separator p new) (append_assoc pieces a b) (second (pieces ++ a) (first pieces is))

-- no piece more
pub joins_none : (separator : List ℕ) (joined : Joined) → Joins separator [] joined joined
joins_none separator joined = λ pieces is. subst (λ (p : List (List ℕ)). AreJoined separator p joined) (sym (append-nil pieces)) is

-- one element more
pub one_taken : {A : Type 0} (xs : List A) (i : ℕ) (x : A) → slice_get xs i ≡ Some x → take (i + 1) xs ≡ take i xs ++ x ∷ []
one_taken xs i x is =
    take_more xs i x (slice_get_within xs i x is) ∙ ap (λ y. take i xs ++ y ∷ []) (get_or_from_slice_get xs i x x is)

-- the texts of one element more
pub one_mapped : {A B : Type 0} (f : A → B) (xs : List A) (i : ℕ) (x : A) → slice_get xs i ≡ Some x
    → map f (take (i + 1) xs) ≡ map f (take i xs) ++ f x ∷ []
one_mapped f xs i x is = ap (map f) (one_taken xs i x is) ∙ map-append f (take i xs) (x ∷ [])

-- the elements from a place on
pub one_dropped : {A : Type 0} (xs : List A) (i : ℕ) (x : A) → slice_get xs i ≡ Some x → drop i xs ≡ x ∷ drop (i + 1) xs
one_dropped xs i x is =
    let next : i + 1 ≡ suc i = omega arith in
    drop-cons xs i x (slice_get_within xs i x is) ∙ ap (λ y. y ∷ drop (suc i) xs) (get_or_from_slice_get xs i x x is)
    ∙ ap (λ j. x ∷ drop j xs) (sym next)

-- a list of one element
pub single : {A : Type 0} (xs : List A) (x : A) → length xs ≡ 1 → slice_get xs 0 ≡ Some x → xs ≡ x ∷ []
single [] x one is = absurd (omega arith)
single (y ∷ []) x one is = ap (λ z. z ∷ []) (get_or_from_slice_get (y ∷ []) 0 x y is)
single (y ∷ z ∷ xs) x one is = absurd (omega arith)

-- ---- Whether 0 is in ranges

starts_at_zero : (a b : ℕ) → a ≡ 0 → range_holds 0 (a, b) ≡ true
starts_at_zero a b is = grind (arith, nat_tests)

starts_above_zero : (a b : ℕ) → (a ≡ 0 → ⊥) → range_holds 0 (a, b) ≡ false
starts_above_zero a b is = grind (arith, nat_tests)

pub holds_here : (ranges : List (ℕ × ℕ)) (i : ℕ) (range : ℕ × ℕ) → slice_get ranges i ≡ Some range → range.0 ≡ 0
    → is_in_ranges (drop i ranges) 0 ≡ true
holds_here ranges i range is zero = rw (one_dropped ranges i range is, starts_at_zero range.0 range.1 zero) refl

pub holds_later : (ranges : List (ℕ × ℕ)) (i : ℕ) (range : ℕ × ℕ) → slice_get ranges i ≡ Some range → (range.0 ≡ 0 → ⊥)
    → is_in_ranges (drop i ranges) 0 ≡ is_in_ranges (drop (i + 1) ranges) 0
holds_later ranges i range is other = rw (one_dropped ranges i range is, starts_above_zero range.0 range.1 other) refl

-- ---- The ranges of a relation

pub compared_texts : (comparisons : List Comparison) → map atom_text (map compared comparisons) ≡ map comparison_text comparisons
compared_texts [] = refl
compared_texts (c ∷ cs) = ap (λ (ts : List (List ℕ)). comparison_text c ∷ ts) (compared_texts cs)

pub several : (modulus : ℕ) (ranges : List (ℕ × ℕ)) → (length ranges ≡ 1 → ⊥)
    → in_ranges modulus ranges ≡ bracketed (map (inside modulus) ranges) ∷ []
several modulus [] other = refl
several modulus (range ∷ []) other = absurd (other refl)
several modulus (range ∷ next ∷ ranges) other = refl

-- ---- A group

-- what holds at Ok has a consequence there
pub at_ok : {P Q : Type 0} (r : Result ⊤ AllocError) → (P → Q) → OnOk r P → OnOk r Q
at_ok (Ok x) f h = f h
at_ok (Err e) f h = tt

more_atoms : (group : List PackedRelation) (r : PackedRelation)
    → map atom_text (atoms_of_group (group ++ r ∷ [])) ≡ map atom_text (atoms_of_group group) ++ map atom_text (atoms_of r)
more_atoms group r =
    ap (map atom_text)
    (flat_map-append atoms_of group (r ∷ []) ∙ ap (λ (l : List Atom). atoms_of_group group ++ l) (append-nil (atoms_of r)))
    ∙ map-append atom_text (atoms_of_group group) (atoms_of r)

and_one : (a b : Bool) → (a && (b && true)) ≡ (a && b)
and_one true true = refl
and_one true false = refl
and_one false b = refl

more_possible : (group : List PackedRelation) (r : PackedRelation)
    → list_all is_possible (group ++ r ∷ []) ≡ (list_all is_possible group && is_possible r)
more_possible group r = list_all-append is_possible group (r ∷ []) ∙ and_one (list_all is_possible group) (is_possible r)

pub group_more : (group : List PackedRelation) (r : PackedRelation) (old new : Group) → IsGroup group old
    → Joins (codes " && ") (map atom_text (atoms_of r)) old.atoms new.atoms → new.is_possible ≡ (old.is_possible && is_possible r)
    → IsGroup (group ++ r ∷ []) new
group_more group r old new is joins possible = record {
  atoms = subst (λ (p : List (List ℕ)). AreJoined (codes " && ") p new.atoms) (sym (more_atoms group r))
      (joins (map atom_text (atoms_of_group group)) is.atoms);
  is_possible = possible ∙ ap (λ (b : Bool). b && is_possible r) is.is_possible ∙ sym (more_possible group r);
}

and_true : (a : Bool) → (a && true) ≡ a
and_true true = refl
and_true false = refl

-- a relation of the number
pub of_number : (r : PackedRelation) (group : List PackedRelation) (old new : Group) → is_whole_operand r.meaning.operand ≡ true
    → Joins (codes " && ") (map atom_text (atoms_under r.meaning.operator r.meaning.modulus r.meaning.ranges)) old.atoms new.atoms
    → new.is_possible ≡ old.is_possible → IsGroup group old → IsGroup (group ++ r ∷ []) new
of_number r group old new number joins same is =
    group_more group r old new is (rw number joins) (same ∙ sym (rw number (and_true old.is_possible)))

-- another one
pub of_another : (r : PackedRelation) (group : List PackedRelation) (old new : Group) → is_whole_operand r.meaning.operand ≡ false
    → new.atoms ≡ old.atoms → new.is_possible ≡ (old.is_possible && under r.meaning.operator (is_in_ranges r.meaning.ranges 0))
    → IsGroup group old → IsGroup (group ++ r ∷ []) new
of_another r group old new other same possible is =
    group_more group r old new is (rw (other, same) (joins_none (codes " && ") old.atoms)) (rw other possible)

-- ---- Groups

pub more_texts : (done : List (List PackedRelation)) (group : List PackedRelation)
    → group_texts (done ++ group ∷ []) ≡ group_texts done ++ group_texts (group ∷ [])
more_texts done group =
    let text = λ (all : List Atom). and_text (map atom_text all) in
    ap (map text) (ap (map atoms_of_group) (filter-append (list_all is_possible) done (group ∷ []))
    ∙ map-append atoms_of_group (filter (list_all is_possible) done) (filter (list_all is_possible) (group ∷ [])))
    ∙ map-append text (conditions_of_groups done) (conditions_of_groups (group ∷ []))

-- the open group ends
pub cut_at_or : (done : List (List PackedRelation)) (group : List PackedRelation) (old_ended new_ended : Joined)
    (old_current new_current : Group)
    → Joins (codes " || ") (group_texts (group ∷ [])) old_ended new_ended → IsGroup [] new_current → AreCut done group old_ended old_current
    → AreCut (done ++ group ∷ []) [] new_ended new_current
cut_at_or done group old_ended new_ended old_current new_current joins new is = record {
  are_ended = subst (λ (p : List (List ℕ)). AreJoined (codes " || ") p new_ended) (sym (more_texts done group))
      (joins (group_texts done) is.are_ended);
  is_current = new;
}

-- relations at the front of the first group
abbrev pub glued : List PackedRelation → List (List PackedRelation) → List (List PackedRelation)
glued relations [] = relations ∷ []
glued relations (group ∷ groups) = (relations ++ group) ∷ groups

glued_front : (mark : AndOr) (r : PackedRelation) (groups : List (List PackedRelation))
    → glued [] (cut_before mark (at_front r groups)) ≡ cut_before mark (at_front r groups)
glued_front And r [] = refl
glued_front And r (group ∷ groups) = refl
glued_front Or r groups = refl

pub glued_none : (relations : List PackedRelation) → glued [] (groups relations) ≡ groups relations
glued_none [] = refl
glued_none (r ∷ relations) = glued_front r.and_or r (groups relations)

glued_one : (r : PackedRelation) (groups : List (List PackedRelation)) → glued (r ∷ []) groups ≡ at_front r groups
glued_one r [] = refl
glued_one r (group ∷ groups) = refl

glued_more : (group : List PackedRelation) (r : PackedRelation) (groups : List (List PackedRelation))
    → glued group (at_front r groups) ≡ glued (group ++ r ∷ []) groups
glued_more group r [] = refl
glued_more group r (first ∷ groups) = ap (λ (g : List PackedRelation). g ∷ groups) (sym (append_assoc group (r ∷ []) first))

-- one relation further
pub cut_further : (mark : AndOr) (done : List (List PackedRelation)) (group : List PackedRelation) (r : PackedRelation)
    (rest : List (List PackedRelation))
    → done ++ glued group (cut_before mark (at_front r rest))
    ≡ groups_ended_before mark done group ++ glued (begun_before mark group ++ r ∷ []) rest
cut_further And done group r rest = ap (λ (gs : List (List PackedRelation)). done ++ gs) (glued_more group r rest)
cut_further Or done group r rest =
    ap (λ (g : List PackedRelation). done ++ g ∷ at_front r rest) (append-nil group)
    ∙ ap (λ (gs : List (List PackedRelation)). done ++ group ∷ gs) (sym (glued_one r rest))
    ∙ sym (append_assoc done (group ∷ []) (glued (r ∷ []) rest))

-- the relations that are taken, cut into groups, and those that are left
pub record IsTaken (relations left : List PackedRelation) (ended : Joined) (current : Group) : Type 0 where
  pub done : List (List PackedRelation)
  pub group : List PackedRelation
  pub cut : groups relations ≡ done ++ glued group (groups left)
  pub are : AreCut done group ended current

pub none_taken : (relations : List PackedRelation) (ended : Joined) (current : Group) → AreJoined (codes " || ") [] ended
    → IsGroup [] current
    → IsTaken relations relations ended current
none_taken relations ended current none empty = record {
  done = [];
  group = [];
  cut = sym (glued_none relations);
  are = record { are_ended = none; is_current = empty };
}

pub one_more_taken : (relations left after : List PackedRelation) (r : PackedRelation) (ended new_ended : Joined)
    (current mid_current new_current : Group)
    → left ≡ r ∷ after → IsTaken relations left ended current
    → ((done : List (List PackedRelation)) (group : List PackedRelation) → AreCut done group ended current
    → AreCut (groups_ended_before r.and_or done group) (begun_before r.and_or group) new_ended mid_current)
    → ((group : List PackedRelation) → IsGroup group mid_current → IsGroup (group ++ r ∷ []) new_current)
    → IsTaken relations after new_ended new_current
one_more_taken relations left after r ended new_ended current mid_current new_current is t cuts adds =
    let c = cuts t.done t.group t.are in
    record {
      done = groups_ended_before r.and_or t.done t.group;
      group = begun_before r.and_or t.group ++ r ∷ [];
      cut = t.cut ∙ ap (λ (l : List PackedRelation). t.done ++ glued t.group (groups l)) is
          ∙ cut_further r.and_or t.done t.group r (groups after);
      are = record { are_ended = c.are_ended; is_current = adds (begun_before r.and_or t.group) c.is_current };
    }

-- the texts of all groups
pub all_taken : (relations left : List PackedRelation) (ended new_ended : Joined) (current : Group) → left ≡ []
    → IsTaken relations left ended current
    → ((group : List PackedRelation) → IsGroup group current → Joins (codes " || ") (group_texts (group ∷ [])) ended new_ended)
    → AreJoined (codes " || ") (group_texts (groups relations)) new_ended
all_taken relations left ended new_ended current none t ends =
    let last : groups relations ≡ t.done ++ t.group ∷ [] =
    t.cut ∙ ap (λ (l : List PackedRelation). t.done ++ glued t.group (groups l)) none
    ∙ ap (λ (g : List PackedRelation). t.done ++ g ∷ []) (append-nil t.group) in
    subst (λ (p : List (List ℕ)). AreJoined (codes " || ") p new_ended)
    (sym (ap group_texts last ∙ more_texts t.done t.group))
    (ends t.group t.are.is_current (group_texts t.done) t.are.are_ended)
