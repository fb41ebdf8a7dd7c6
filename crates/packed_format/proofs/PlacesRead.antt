-- What the places of a part say of those behind it.
use Rattle.std.proofs.Common.{◌≡◌, ◌∙◌, ◌+◌, ◌<◌, ℕ, zero, suc, List, [], drop, refl, sym, ap, subst, arith, true, Option}
use Rattle.std.specs.Prelude.{slice_index, length, codes}
use Rattle.std.proofs.lemmas.List.{drop-drop}
use Rattle.std.proofs.lemmas.Option.{slice_get_within}
use Rattle.message_pattern.specs.declared.part.ArgumentKind.TheVariants.{Plural, Ordinal, Select}
use Rattle.message_pattern.specs.PatternParts.{Part, PatternPiece, Selector, Exactly, Keyword, Text, Hash, Argument, Begin, Branch, End}
use Rattle.message_pattern.specs.PatternParts.{branches_of}
use Rattle.message_format.specs.FormatBranches.{branch_of_keyword, branch_or_other, parts_or_none}
use Rattle.packed_pattern.specs.PartPlaces.{AnyNumber, Word, PlacedPart, IsPlaced, argument_places, branch_length, branch_place}
use Rattle.packed_pattern.specs.PartPlaces.{place_or_other, piece_places, selector_places}
use Rattle.packed_pattern.specs.Inner.PartReading.{is_plural}
use Rattle.packed_format.specs.Inner.PackedSteps.{has_next_number, numbers_from, numbers_of, parts_behind}
use Rattle.packed_format.proofs.BehindParts.{IsNumberPlace, at_place, at_word, behind_branch, number_place, word_place}

-- a place is within the parts
pub within : (placed : PlacedPart) (parts : List Part) (index : ℕ) → IsPlaced placed parts index → index < length parts
within placed parts index h = slice_get_within parts index placed.part h.part

-- a place of a piece, which is one of what stands behind it
a_place : (placed : PlacedPart) (parts : List Part) (index which n : ℕ) (q : PatternPiece)
    → IsPlaced placed parts index → placed.part.piece ≡ q
    → n ≡ slice_index placed.places which → n ≡ slice_index (piece_places placed.part.depth q (drop (index + 1) parts)) which
a_place placed parts index which n q h is e =
    e ∙ ap (λ (l : List ℕ). slice_index l which)
    (h.places ∙ ap (λ (x : PatternPiece). piece_places placed.part.depth x (drop (index + 1) parts)) is)

branch_end : (s : Selector) (depth : ℕ) (ps : List Part) → slice_index (selector_places s depth ps) 0 ≡ branch_length depth ps
branch_end (Exactly number) depth ps = refl
branch_end (Keyword word) depth ps = refl

-- the next selector is sought from the end of a branch on
pub selector_end : (placed : PlacedPart) (parts : List Part) (index n depth : ℕ) (s : Selector) → IsPlaced placed parts index
    → placed.part.piece ≡ Branch s → placed.part.depth ≡ depth → n ≡ slice_index placed.places 0
    → branches_of depth (drop (index + 1 + n) parts) ≡ branches_of depth (drop (index + 1) parts)
selector_end placed parts index n depth s h is same e =
    let rest = drop (index + 1) parts in
    let d = placed.part.depth in
    let length_of : n ≡ branch_length d rest = a_place placed parts index 0 n (Branch s) h is e ∙ branch_end s d rest in
    let at : branches_of d (drop (index + 1 + n) parts) ≡ branches_of d rest =
    ap (branches_of d) (sym (drop-drop n (index + 1) parts) ∙ ap (λ (k : ℕ). drop k rest) length_of) ∙ behind_branch d rest in
    subst (λ (k : ℕ). branches_of k (drop (index + 1 + n) parts) ≡ branches_of k rest) same at

number_index : (q : PatternPiece) (depth : ℕ) (ps : List Part) → has_next_number q ≡ true → slice_index (piece_places depth q ps) 1
    ≡ branch_place AnyNumber depth ps
number_index (Begin Plural name offset) depth ps h = refl
number_index (Begin Ordinal name offset) depth ps h = refl
number_index (Begin Select name offset) depth ps h = cc
number_index (Branch (Exactly number)) depth ps h = refl
number_index (Branch (Keyword word)) depth ps h = cc
number_index (Text text) depth ps h = cc
number_index Hash depth ps h = cc
number_index (Argument name) depth ps h = cc
number_index End depth ps h = cc

next_place : (placed : PlacedPart) (parts : List Part) (index n depth : ℕ) → IsPlaced placed parts index
    → has_next_number placed.part.piece ≡ true
    → placed.part.depth ≡ depth → n ≡ slice_index placed.places 1 → IsNumberPlace depth (drop (index + 1) parts) n
next_place placed parts index n depth h has same e =
    let rest = drop (index + 1) parts in
    let d = placed.part.depth in
    let place : n ≡ branch_place AnyNumber d rest =
    a_place placed parts index 1 n placed.part.piece h refl e ∙ number_index placed.part.piece d rest has in
    subst (λ (k : ℕ). IsNumberPlace k rest n) same (subst (λ (k : ℕ). IsNumberPlace d rest k) (sym place) (number_place d rest))

-- without a place there is no number
pub no_number : (placed : PlacedPart) (parts : List Part) (index n depth : ℕ) → IsPlaced placed parts index
    → has_next_number placed.part.piece ≡ true
    → placed.part.depth ≡ depth → n ≡ slice_index placed.places 1 → n ≡ 0 → numbers_from depth parts (index + 1) ≡ []
no_number placed parts index n depth h has same e none =
    subst (λ (k : ℕ). IsNumberPlace depth (drop (index + 1) parts) k) none (next_place placed parts index n depth h has same e)

-- from the place on the numbers are the same
pub same_numbers : (placed : PlacedPart) (parts : List Part) (index n depth : ℕ) → IsPlaced placed parts index
    → has_next_number placed.part.piece ≡ true
    → placed.part.depth ≡ depth → n ≡ slice_index placed.places 1 → 0 < n → numbers_from depth parts (index + n)
    ≡ numbers_from depth parts (index + 1)
same_numbers placed parts index zero depth h has same e some = absurd (omega arith)
same_numbers placed parts index (suc m) depth h has same e some =
    let at = next_place placed parts index (suc m) depth h has same e in
    let sum : index + suc m ≡ index + 1 + m = omega arith in
    ap (λ (ps : List Part). numbers_of (branches_of depth ps)) (ap (λ (k : ℕ). drop k parts) sum ∙ sym (drop-drop m (index + 1) parts)) ∙ at

-- ---- of a keyword

-- the place of the branch `other` of a select
pub other_there : (placed : PlacedPart) (parts : List Part) (index n : ℕ) (name : List ℕ) (offset : Option (List ℕ))
    → IsPlaced placed parts index
    → placed.part.piece ≡ Begin Select name offset → n ≡ slice_index placed.places 1
    → parts_behind n (drop (index + 1) parts)
    ≡ parts_or_none (branch_of_keyword (codes "other") (branches_of placed.part.depth (drop (index + 1) parts)))
other_there placed parts index n name offset h is e =
    let rest = drop (index + 1) parts in
    let d = placed.part.depth in
    let place : n ≡ branch_place (Word (codes "other")) d rest = a_place placed parts index 1 n (Begin Select name offset) h is e in
    ap (λ (k : ℕ). parts_behind k rest) place
    ∙ at_place rest (branch_place (Word (codes "other")) d rest) (branch_of_keyword (codes "other") (branches_of d rest))
    (word_place (codes "other") d rest)

plural_places : (q : PatternPiece) (depth : ℕ) (ps : List Part) → is_plural q ≡ true → piece_places depth q ps
    ≡ argument_places Plural depth ps
plural_places (Begin Plural name offset) depth ps h = refl
plural_places (Begin Ordinal name offset) depth ps h = refl
plural_places (Begin Select name offset) depth ps h = cc
plural_places (Branch s) depth ps h = cc
plural_places (Text text) depth ps h = cc
plural_places Hash depth ps h = cc
plural_places (Argument name) depth ps h = cc
plural_places End depth ps h = cc

-- a place of a plural that is that of a keyword
pub word_there : (placed : PlacedPart) (parts : List Part) (index which n : ℕ) (word : List ℕ) → IsPlaced placed parts index
    → is_plural placed.part.piece ≡ true
    → ((depth : ℕ) (rest : List Part) → slice_index (argument_places Plural depth rest) which ≡ place_or_other word depth rest) → n
    ≡ slice_index placed.places which
    → parts_behind n (drop (index + 1) parts) ≡ branch_or_other word (branches_of placed.part.depth (drop (index + 1) parts))
word_there placed parts index which n word h plural of e =
    let rest = drop (index + 1) parts in
    let d = placed.part.depth in
    let place : n ≡ place_or_other word d rest =
    a_place placed parts index which n placed.part.piece h refl e
    ∙ (ap (λ (l : List ℕ). slice_index l which) (plural_places placed.part.piece d rest plural) ∙ of d rest) in
    ap (λ (k : ℕ). parts_behind k rest) place ∙ at_word word d rest
