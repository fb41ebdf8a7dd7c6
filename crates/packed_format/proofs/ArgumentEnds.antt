-- Behind the length of an argument stands its end, in parts that are in their order.
use Rattle.std.proofs.Common.{◌≡◌, ◌∙◌, ◌+◌, ◌≤◌, ℕ, zero, suc, List, [], ◌∷◌, drop, refl, sym, ap, subst, add-one, arith, nat_lt}
use Rattle.std.proofs.Common.{nat_eq, Bool, true, false, ◌&&◌, not, Some, None}
use Rattle.std.specs.Prelude.{slice_get, slice_index}
use Rattle.std.proofs.lemmas.Bool.Decides.{nat_tests}
use Rattle.std.proofs.lemmas.List.{drop-drop}
use Rattle.message_pattern.specs.declared.part.ArgumentKind.TheVariants.{Plural, Ordinal, Select}
use Rattle.message_pattern.specs.PatternParts.{Part, PatternPiece, Text, Hash, Argument, Begin, Branch, End}
use Rattle.message_format.specs.FormatBranches.{behind_end}
use Rattle.message_format.specs.FormatParts.{BeginsChoice, BeginWithChoice, first_depth}
use Rattle.packed_pattern.specs.PartOrder.{depth_behind, may_follow, is_begin, first_misplaced, before_all}
use Rattle.packed_pattern.specs.PartPlaces.{PlacedPart, IsPlaced, argument_length, piece_places}
use Rattle.packed_format.proofs.BehindParts.{from_place}

-- a part that is in order, and those behind it
follows : (place : ℕ) (before q : Part) (qs : List Part) → first_misplaced place before (q ∷ qs) ≡ None
    → (may_follow before q ≡ true) × (first_misplaced (place + 1) q qs ≡ None)
follows place before q qs h = this (may_follow before q) refl
  where
    this : (b : Bool) → may_follow before q ≡ b → (may_follow before q ≡ true) × (first_misplaced (place + 1) q qs ≡ None)
    this true is = (is, rw is at h)
    this false is = let n : Some place ≡ None = rw is at h in cc

-- what follows a part is in as many branches at least
deep_behind : (p : Part) → p.depth ≤ depth_behind p
deep_behind p = this p.piece refl
  where
    this : (w : PatternPiece) → p.piece ≡ w → p.depth ≤ depth_behind p
    this (Begin kind name offset) is = rw is (omega arith)
    this (Branch s) is = rw is (omega arith)
    this (Text text) is = rw is (omega arith)
    this Hash is = rw is (omega arith)
    this (Argument name) is = rw is (omega arith)
    this End is = rw is (omega arith)

both_true : (a b : Bool) → (a && b) ≡ true → b ≡ true
both_true true b h = h
both_true false b h = cc

equal : (m n : ℕ) → nat_eq m n ≡ true → m ≡ n
equal m n h = grind (arith, nat_tests)

-- in an argument at a depth
pub behind_length : (depth place : ℕ) (before : Part) (ps : List Part) → first_misplaced place before ps ≡ None
    → depth + 1 ≤ depth_behind before
    → behind_end depth ps ≡ drop (suc (argument_length depth ps)) ps
behind_length depth place before [] h inside = refl
behind_length depth place before (q ∷ qs) h inside =
    let f = follows place before q qs h in
    this (nat_lt depth q.depth) q.piece refl refl f.0 (behind_length depth (place + 1) q qs f.1)
  where
    this : (t : Bool) (w : PatternPiece) → nat_lt depth q.depth ≡ t → q.piece ≡ w → may_follow before q ≡ true
        → (depth + 1 ≤ depth_behind q → behind_end depth qs ≡ drop (suc (argument_length depth qs)) qs)
        → behind_end depth (q ∷ qs) ≡ drop (suc (argument_length depth (q ∷ qs))) (q ∷ qs)
    this true w deeper is may more =
        let d : depth + 1 ≤ q.depth = grind (arith, nat_tests) in
        let b = deep_behind q in
        rw (deeper, add-one) (more (omega (arith, d, b)))
    this false (Branch s) deeper is may more =
        let e : q.depth + 1 ≡ depth_behind before = equal (q.depth + 1) (depth_behind before) (rw is at may) in
        let b : depth_behind q ≡ q.depth + 1 = rw is refl in
        rw (deeper, is, add-one) (more (omega (arith, e, b, inside)))
    this false End deeper is may more = rw (deeper, is) refl
    this false (Text text) deeper is may more =
        let e : q.depth ≡ depth_behind before =
        equal q.depth (depth_behind before)
        (both_true (not (is_begin before.piece)) (nat_eq q.depth (depth_behind before)) (rw is at may)) in
        let d : q.depth ≤ depth = grind (arith, nat_tests) in
        absurd (omega (arith, e, d, inside))
    this false Hash deeper is may more =
        let e : q.depth ≡ depth_behind before =
        equal q.depth (depth_behind before)
        (both_true (not (is_begin before.piece)) (nat_eq q.depth (depth_behind before)) (rw is at may)) in
        let d : q.depth ≤ depth = grind (arith, nat_tests) in
        absurd (omega (arith, e, d, inside))
    this false (Argument name) deeper is may more =
        let e : q.depth ≡ depth_behind before =
        equal q.depth (depth_behind before)
        (both_true (not (is_begin before.piece)) (nat_eq q.depth (depth_behind before)) (rw is at may)) in
        let d : q.depth ≤ depth = grind (arith, nat_tests) in
        absurd (omega (arith, e, d, inside))
    this false (Begin kind name offset) deeper is may more =
        let e : q.depth ≡ depth_behind before =
        equal q.depth (depth_behind before)
        (both_true (not (is_begin before.piece)) (nat_eq q.depth (depth_behind before)) (rw is at may)) in
        let d : q.depth ≤ depth = grind (arith, nat_tests) in
        absurd (omega (arith, e, d, inside))

-- the parts behind one are in their order
pub ordered_behind : (place : ℕ) (before : Part) (ps : List Part) (index : ℕ) (p : Part) → first_misplaced place before ps ≡ None
    → slice_get ps index ≡ Some p
    → (k : ℕ) × (first_misplaced k p (drop (suc index) ps) ≡ None)
ordered_behind place before [] zero p h there = cc
ordered_behind place before [] (suc index) p h there = cc
ordered_behind place before (q ∷ qs) zero p h there =
    let same : q ≡ p = cc in
    (place + 1, subst (λ (r : Part). first_misplaced (place + 1) r qs ≡ None) same (follows place before q qs h).1)
ordered_behind place before (q ∷ qs) (suc index) p h there = ordered_behind (place + 1) q qs index p (follows place before q qs h).1 there

-- an argument that chooses opens a branch
of_begin : (p : Part) → BeginsChoice p.piece → p.depth + 1 ≤ depth_behind p
of_begin p begins = this p.piece refl begins
  where
    this : (w : PatternPiece) → p.piece ≡ w → BeginsChoice w → p.depth + 1 ≤ depth_behind p
    this (Begin kind name offset) is b = rw is (omega arith)
    this (Branch s) is b = absurd b
    this (Text text) is b = absurd b
    this Hash is b = absurd b
    this (Argument name) is b = absurd b
    this End is b = absurd b

-- its first place is its length
of_places : (q : PatternPiece) (depth : ℕ) (ps : List Part) → BeginsChoice q → slice_index (piece_places depth q ps) 0 ≡ argument_length depth ps
of_places (Begin Plural name offset) depth ps b = refl
of_places (Begin Ordinal name offset) depth ps b = refl
of_places (Begin Select name offset) depth ps b = refl
of_places (Branch s) depth ps b = absurd b
of_places (Text text) depth ps b = absurd b
of_places Hash depth ps b = absurd b
of_places (Argument name) depth ps b = absurd b
of_places End depth ps b = absurd b

-- the parts behind an argument
pub behind_argument : (placed : PlacedPart) (ps : List Part) (index n : ℕ) → first_misplaced 0 before_all ps ≡ None
    → IsPlaced placed ps index → BeginWithChoice (drop index ps)
    → n ≡ slice_index placed.places 0 → drop (index + 2 + n) ps ≡ behind_end (first_depth (drop index ps)) (drop 1 (drop index ps))
behind_argument placed ps index n ordered h begun e =
    let rest = drop (index + 1) ps in
    let depth = placed.part.depth in
    let there : drop index ps ≡ placed.part ∷ rest = from_place ps index placed.part h.part in
    let begins : BeginsChoice placed.part.piece = subst (λ (l : List Part). BeginWithChoice l) there begun in
    let o = ordered_behind 0 before_all ps index placed.part ordered h.part in
    let after : first_misplaced o.0 placed.part rest ≡ None =
    subst (λ (k : ℕ). first_misplaced o.0 placed.part (drop k ps) ≡ None) (sym (add-one index)) o.1 in
    let inside : depth + 1 ≤ depth_behind placed.part = of_begin placed.part begins in
    let length_of : n ≡ argument_length depth rest =
    e ∙ (ap (λ (l : List ℕ). slice_index l 0) h.places ∙ of_places placed.part.piece depth rest begins) in
    let sum : index + 2 + n ≡ index + 1 + suc n = omega arith in
    let shown : drop (index + 2 + n) ps ≡ behind_end depth rest =
    ap (λ (k : ℕ). drop k ps) sum ∙
    (sym (drop-drop (suc n) (index + 1) ps)
    ∙ (ap (λ (k : ℕ). drop (suc k) rest) length_of ∙ sym (behind_length depth o.0 placed.part rest after inside))) in
    subst (λ (l : List Part). drop (index + 2 + n) ps ≡ behind_end (first_depth l) (drop 1 l)) (sym there) shown
