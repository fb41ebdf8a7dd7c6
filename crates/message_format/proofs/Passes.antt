-- The first of the parts that are left, and the branch at their front.
use Rattle.std.proofs.Common.{◌≡◌, ◌≤◌, ◌<◌, ◌-◌, ℕ, List, [], ◌∷◌, Option, Some, Bool, true, false, nat_lt, if◌then◌else◌}
use Rattle.std.proofs.Common.{length, take, drop, get_or, refl, sym, ap, subst, inl, inr, arith}
use Rattle.std.specs.Bool.{IsTrue}
use Rattle.std.proofs.lemmas.List.{take_all}
use Rattle.std.proofs.lemmas.Bool.Decides.{nat_tests}
use Rattle.fixed_decimal.specs.Written.{CompactNumber}
use Rattle.message_pattern.specs.declared.part.Part as parts
use Rattle.message_pattern.specs.declared.part.Piece.TheVariants as pieces
use Rattle.message_pattern.specs.declared.part.Selector as selectors
use Rattle.message_pattern.specs.PatternParts.{Part, Selector, parts_view, selector_view, Branching, branches_of}
use Rattle.message_format.specs.FormatBranches.{Equals, IsBranchOfValue, behind_end, is_keyword, branch_of_keyword}
use Rattle.message_format.specs.FormatParts.{IsFirstChosen}

-- what stands for a part that isn't there
abbrev pub no_part : parts.Part
no_part = record { depth = 0; piece = pieces.Text record { ref_ptr = (0, 0); now = [] } }

-- the parts are the first one and the rest
pub headed : (ps : List parts.Part) (d : parts.Part) (n : ℕ) → 1 ≤ length ps → n ≡ length ps → ps ≡ get_or ps 0 d ∷ take (n - 1) (drop 1 ps)
headed [] d n h e = absurd (omega arith)
headed (p ∷ ps) d n h e = ap (λ (l : List parts.Part). p ∷ l) (sym (take_all (n - 1) ps (omega arith)))

-- none is left
pub none_left : (ps : List parts.Part) → length ps < 1 → ps ≡ []
none_left [] h = refl
none_left (p ∷ ps) h = absurd (omega arith)

-- the first branch
pub branches_from : (depth : ℕ) (p : parts.Part) (rest : List parts.Part) (s : selectors.Selector) → p.depth ≤ depth
    → p.piece ≡ pieces.Branch s
    → branches_of depth (parts_view (p ∷ rest))
    ≡ record { selector = selector_view s; parts = parts_view rest } ∷ branches_of depth (parts_view rest)
branches_from depth p rest s h is =
    let f : nat_lt depth p.depth ≡ false = grind (arith, nat_tests) in
    rw (f, is)

-- a branch that isn't chosen is passed
pub passed : (P : Selector → Type 0) (depth : ℕ) (ps : List parts.Part) (p : parts.Part) (rest : List parts.Part) (s : selectors.Selector)
    (found : Option (List Part))
    → ps ≡ p ∷ rest → p.depth ≤ depth → p.piece ≡ pieces.Branch s → (P (selector_view s) → ⊥)
    → IsFirstChosen P (branches_of depth (parts_view rest)) found → IsFirstChosen P (branches_of depth (parts_view ps)) found
passed P depth ps p rest s found e h is other k =
    subst (λ (l : List parts.Part). IsFirstChosen P (branches_of depth (parts_view l)) found) (sym e)
    (subst (λ (l : List Branching). IsFirstChosen P l found) (sym (branches_from depth p rest s h is)) (inr (other, k)))

-- a branch that is chosen is the first
pub taken : (P : Selector → Type 0) (depth : ℕ) (ps : List parts.Part) (p : parts.Part) (rest : List parts.Part) (s : selectors.Selector)
    → ps ≡ p ∷ rest → p.depth ≤ depth → p.piece ≡ pieces.Branch s → P (selector_view s)
    → IsFirstChosen P (branches_of depth (parts_view ps)) (Some (parts_view rest))
taken P depth ps p rest s e h is same =
    subst (λ (l : List parts.Part). IsFirstChosen P (branches_of depth (parts_view l)) (Some (parts_view rest))) (sym e)
    (subst (λ (l : List Branching). IsFirstChosen P l (Some (parts_view rest))) (sym (branches_from depth p rest s h is)) (inl (same, refl)))

-- the end of the argument isn't a branch
pub behind_branch : (depth : ℕ) (ps : List parts.Part) (p : parts.Part) (rest : List parts.Part) (s : selectors.Selector)
    → ps ≡ p ∷ rest → p.depth ≤ depth → p.piece ≡ pieces.Branch s → behind_end depth (parts_view rest) ≡ behind_end depth (parts_view ps)
behind_branch depth ps p rest s e h is =
    let f : nat_lt depth p.depth ≡ false = grind (arith, nat_tests) in
    subst (λ (l : List parts.Part). behind_end depth (parts_view rest) ≡ behind_end depth (parts_view l)) (sym e) (rw (f, is) refl)

-- ---- the first branch that is chosen by a value, and by a keyword

pub of_value : (x : CompactNumber) (bs : List Branching) (found : Option (List Part)) → IsFirstChosen (λ s. Equals x s) bs found
    → IsBranchOfValue x bs found
of_value x [] found h = h
of_value x (b ∷ bs) found (inl h) = inl h
of_value x (b ∷ bs) found (inr h) = inr (h.0, of_value x bs found h.1)

not_true : (b : Bool) → (IsTrue b → ⊥) → b ≡ false
not_true false h = refl
not_true true h = absurd (h refl)

pub of_keyword : (word : List ℕ) (bs : List Branching) (found : Option (List Part)) → IsFirstChosen (λ s. IsTrue (is_keyword word s)) bs found
    → found ≡ branch_of_keyword word bs
of_keyword word [] found h = h
of_keyword word (b ∷ bs) found (inl h) =
    let is : is_keyword word b.selector ≡ true = h.0 in
    subst (λ (t : Bool). found ≡ (if t then Some b.parts else branch_of_keyword word bs)) (sym is) h.1
of_keyword word (b ∷ bs) found (inr h) =
    subst (λ (t : Bool). found ≡ (if t then Some b.parts else branch_of_keyword word bs)) (sym (not_true (is_keyword word b.selector) h.0))
    (of_keyword word bs found h.1)
