-- What stands at a place, in the parts behind one.
use Rattle.std.proofs.Common.{◌≡◌, ◌∙◌, ◌+◌, ℕ, zero, suc, List, [], ◌∷◌, drop, length, refl, sym, ap, subst, add-one, arith, nat_eq, Bool}
use Rattle.std.proofs.Common.{true, false, nat_lt, bytes_eq, Option, Some, None}
use Rattle.std.specs.Prelude.{slice_get, codes}
use Rattle.std.proofs.lemmas.Bool.Decides.{nat_tests}
use Rattle.std.proofs.lemmas.List.{drop_more}
use Rattle.std.proofs.lemmas.Option.{slice_get_within, get_or_from_slice_get}
use Rattle.message_pattern.specs.PatternParts.{Part, PatternPiece, Exactly, Keyword, Text, Hash, Argument, Begin, Branch, End, branches_of}
use Rattle.message_format.specs.FormatBranches.{branch_of_keyword, branch_or_other, parts_or_none, or_branch}
use Rattle.packed_pattern.specs.PackedParts.{part_items_of}
use Rattle.packed_pattern.specs.PartPlaces.{AnyNumber, Word, branch_length, branch_place, one_more, or_place, place_or_other}
use Rattle.packed_format.specs.Inner.PackedSteps.{numbers_of, parts_behind}

-- the part at a place is the first of those from it on
pub from_place : {A : Type 0} (xs : List A) (k : ℕ) (x : A) → slice_get xs k ≡ Some x → drop k xs ≡ x ∷ drop (k + 1) xs
from_place xs k x h = drop_more xs k x (slice_get_within xs k x h) ∙ ap (λ y. y ∷ drop (k + 1) xs) (get_or_from_slice_get xs k x x h)

-- from a place without a part on there is none
pub no_place : {A : Type 0} (xs : List A) (k : ℕ) → slice_get xs k ≡ None → drop k xs ≡ []
no_place [] zero h = refl
no_place [] (suc k) h = refl
no_place (x ∷ xs) zero h = cc
no_place (x ∷ xs) (suc k) h = no_place xs k h

-- there is an item for each part
pub length-items : (parts : List Part) → length (part_items_of parts) ≡ length parts
length-items [] = refl
length-items (p ∷ ps) = rw (length-items ps) refl

-- behind a branch stand the same selectors
pub behind_branch : (depth : ℕ) (ps : List Part) → branches_of depth (drop (branch_length depth ps) ps) ≡ branches_of depth ps
behind_branch depth [] = refl
behind_branch depth (p ∷ ps) = this (nat_lt depth p.depth) refl (behind_branch depth ps)
  where
    this : (b : Bool) → nat_lt depth p.depth ≡ b → branches_of depth (drop (branch_length depth ps) ps) ≡ branches_of depth ps
        → branches_of depth (drop (branch_length depth (p ∷ ps)) (p ∷ ps)) ≡ branches_of depth (p ∷ ps)
    this true is more = rw (is, add-one) more
    this false is more = rw (is, is) refl

-- ---- by a keyword

not_zero : (n : ℕ) → nat_eq (suc n) 0 ≡ false
not_zero n = grind (arith, nat_tests)

-- a place says where the parts are, if there are some
abbrev pub IsPlaceOf : List Part → ℕ → Option (List Part) → Type 0
IsPlaceOf ps zero found = found ≡ None
IsPlaceOf ps (suc n) found = found ≡ Some (drop (suc n) ps)

one_part_more : (p : Part) (ps : List Part) (n : ℕ) (found : Option (List Part)) → IsPlaceOf ps n found
    → IsPlaceOf (p ∷ ps) (one_more n) found
one_part_more p ps zero found h = h
one_part_more p ps (suc n) found h = rw (not_zero n, add-one) h

pub word_place : (word : List ℕ) (depth : ℕ) (ps : List Part)
    → IsPlaceOf ps (branch_place (Word word) depth ps) (branch_of_keyword word (branches_of depth ps))
word_place word depth [] = refl
word_place word depth (p ∷ ps) =
    this (nat_lt depth p.depth) p.piece refl refl
    (one_part_more p ps (branch_place (Word word) depth ps) (branch_of_keyword word (branches_of depth ps)) (word_place word depth ps))
  where
    by_word : (b : Bool) (other : List ℕ) → bytes_eq other word ≡ b → nat_lt depth p.depth ≡ false → p.piece ≡ Branch (Keyword other)
        → IsPlaceOf (p ∷ ps) (one_more (branch_place (Word word) depth ps)) (branch_of_keyword word (branches_of depth ps))
        → IsPlaceOf (p ∷ ps) (branch_place (Word word) depth (p ∷ ps)) (branch_of_keyword word (branches_of depth (p ∷ ps)))
    by_word true other same deeper is more = rw (deeper, is, same) refl
    by_word false other same deeper is more = rw (deeper, is, same) more

    this : (b : Bool) (q : PatternPiece) → nat_lt depth p.depth ≡ b → p.piece ≡ q
        → IsPlaceOf (p ∷ ps) (one_more (branch_place (Word word) depth ps)) (branch_of_keyword word (branches_of depth ps))
        → IsPlaceOf (p ∷ ps) (branch_place (Word word) depth (p ∷ ps)) (branch_of_keyword word (branches_of depth (p ∷ ps)))
    this true q deeper is more = rw deeper more
    this false (Branch (Exactly number)) deeper is more = rw (deeper, is) more
    this false (Branch (Keyword other)) deeper is more = by_word (bytes_eq other word) other refl deeper is more
    this false (Text text) deeper is more = rw (deeper, is) refl
    this false Hash deeper is more = rw (deeper, is) refl
    this false (Argument name) deeper is more = rw (deeper, is) refl
    this false (Begin kind name offset) deeper is more = rw (deeper, is) refl
    this false End deeper is more = rw (deeper, is) refl

-- the parts from a place on are those that are found
pub at_place : (ps : List Part) (n : ℕ) (found : Option (List Part)) → IsPlaceOf ps n found → parts_behind n ps ≡ parts_or_none found
at_place ps zero found h = rw h refl
at_place ps (suc n) found h = rw (h, not_zero n) refl

either_place : (ps : List Part) (n m : ℕ) (found other : Option (List Part)) → IsPlaceOf ps n found → IsPlaceOf ps m other
    → parts_behind (or_place n m) ps ≡ parts_or_none (or_branch found other)
either_place ps zero zero found other h k = rw (h, k) refl
either_place ps zero (suc m) found other h k = rw (h, k, not_zero m) refl
either_place ps (suc n) m found other h k = rw (h, not_zero n, not_zero n) refl

-- the place of a keyword or of `other` is that of their branch
pub at_word : (word : List ℕ) (depth : ℕ) (ps : List Part) → parts_behind (place_or_other word depth ps) ps
    ≡ branch_or_other word (branches_of depth ps)
at_word word depth ps =
    either_place ps (branch_place (Word word) depth ps) (branch_place (Word (codes "other")) depth ps)
    (branch_of_keyword word (branches_of depth ps))
    (branch_of_keyword (codes "other") (branches_of depth ps)) (word_place word depth ps) (word_place (codes "other") depth ps)

-- ---- by a number

-- from one part before a place on the branches by a number are the same, or there are none
abbrev pub IsNumberPlace : ℕ → List Part → ℕ → Type 0
IsNumberPlace depth ps zero = numbers_of (branches_of depth ps) ≡ []
IsNumberPlace depth ps (suc n) = numbers_of (branches_of depth (drop n ps)) ≡ numbers_of (branches_of depth ps)

one_number_more : (depth : ℕ) (p : Part) (ps : List Part) (n : ℕ) → IsNumberPlace depth ps n
    → numbers_of (branches_of depth (p ∷ ps)) ≡ numbers_of (branches_of depth ps) → IsNumberPlace depth (p ∷ ps) (one_more n)
one_number_more depth p ps zero h e = e ∙ h
one_number_more depth p ps (suc n) h e = rw (not_zero n, add-one) (h ∙ sym e)

pub number_place : (depth : ℕ) (ps : List Part) → IsNumberPlace depth ps (branch_place AnyNumber depth ps)
number_place depth [] = refl
number_place depth (p ∷ ps) = this (nat_lt depth p.depth) p.piece refl refl
    (one_number_more depth p ps (branch_place AnyNumber depth ps) (number_place depth ps))
  where
    by_place : (n m : ℕ) → n ≡ m → IsNumberPlace depth (p ∷ ps) m → IsNumberPlace depth (p ∷ ps) n
    by_place n m e h = subst (λ (k : ℕ). IsNumberPlace depth (p ∷ ps) k) (sym e) h

    this : (b : Bool) (q : PatternPiece) → nat_lt depth p.depth ≡ b → p.piece ≡ q
        → (numbers_of (branches_of depth (p ∷ ps)) ≡ numbers_of (branches_of depth ps)
        → IsNumberPlace depth (p ∷ ps) (one_more (branch_place AnyNumber depth ps)))
        → IsNumberPlace depth (p ∷ ps) (branch_place AnyNumber depth (p ∷ ps))
    this true q deeper is more = by_place (branch_place AnyNumber depth (p ∷ ps)) (one_more (branch_place AnyNumber depth ps))
        (rw deeper refl) (more (rw deeper refl))
    this false (Branch (Exactly number)) deeper is more = by_place (branch_place AnyNumber depth (p ∷ ps)) 1 (rw (deeper, is) refl) refl
    this false (Branch (Keyword other)) deeper is more =
        by_place (branch_place AnyNumber depth (p ∷ ps)) (one_more (branch_place AnyNumber depth ps)) (rw (deeper, is) refl)
        (more (rw (deeper, is) refl))
    this false (Text text) deeper is more = rw (deeper, is, deeper) refl
    this false Hash deeper is more = rw (deeper, is, deeper) refl
    this false (Argument name) deeper is more = rw (deeper, is, deeper) refl
    this false (Begin kind name offset) deeper is more = rw (deeper, is, deeper) refl
    this false End deeper is more = rw (deeper, is, deeper) refl
