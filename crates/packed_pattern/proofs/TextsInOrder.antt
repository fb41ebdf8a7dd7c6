-- The parts of a text stand in order, as they are printed.
use Rattle.std.proofs.Common.{◌≡◌, ℕ, ◌+◌, List, [], ◌∷◌, ◌++◌, Bool, true, false, ◌&&◌, ◌||◌, not, nat_eq, Option, Some, None, refl, sym, ap, ◌∙◌, subst, append_assoc}
use Rattle.std.proofs.lemmas.Bool.{cond-true, eq-eqb}
use Rattle.std.proofs.lemmas.List.{append-nil}
use Rattle.std.specs.Prelude.{if◌then◌else◌}
use Rattle.message_pattern.specs.PatternAnswers.{IsPattern}
use Rattle.message_pattern.specs.PatternHeads.{is_other}
use Rattle.message_pattern.specs.PatternParts.{Part, PatternPiece, Text, Hash, Argument, Begin, Branch, End}
use Rattle.message_pattern.specs.PatternPrinting.{IsPrinted, quoted_behind, message_ends, message_text, message_hash, message_argument, none_arg, complex_arg, style_branch, style_ends, PatternsPrintBack}
use Rattle.message_pattern.specs.PatternReading.{PatternPlace, InMessage, InArgument, InBranches, context_of}
use Rattle.packed_part.specs.PartOrder.{before_all, depth_behind, ends_branch, first_misplaced, is_begin, may_follow}

-- ---- One part behind another

-- a part at a depth
abbrev at_depth : ℕ → PatternPiece → Part
at_depth d q = record { depth = d; piece = q }

-- what ends no branch stands at the depth that is left, but not behind a beginning
inner_follows : (p : Part) (d : ℕ) (q : PatternPiece) → is_begin p.piece ≡ false → depth_behind p ≡ d → ends_branch q ≡ false
    → may_follow p (at_depth d q) ≡ true
inner_follows p d q start left inner =
    ap (λ (b : Bool). if b then nat_eq (d + 1) (depth_behind p) else not (is_begin p.piece) && nat_eq d (depth_behind p)) inner
    ∙ ap (λ (b : Bool). not b && nat_eq d (depth_behind p)) start ∙ eq-eqb d (depth_behind p) (sym left)

-- what ends one stands a level higher
outer_follows : (p : Part) (d : ℕ) (q : PatternPiece) → depth_behind p ≡ d + 1 → ends_branch q ≡ true → may_follow p (at_depth d q) ≡ true
outer_follows p d q left outer =
    ap (λ (b : Bool). if b then nat_eq (d + 1) (depth_behind p) else not (is_begin p.piece) && nat_eq d (depth_behind p)) outer
    ∙ eq-eqb (d + 1) (depth_behind p) (sym left)

goes_on : (place : ℕ) (p q : Part) (more : List Part) → may_follow p q ≡ true → first_misplaced (place + 1) q more ≡ None
    → first_misplaced place p (q ∷ more) ≡ None
goes_on place p q more follows rest = cond-true (may_follow p q) (first_misplaced (place + 1) q more) (Some place) follows ∙ rest

-- ---- All parts

-- the parts stand in order behind what leaves a depth and is no beginning; behind what begins or parts branches at the depth
abbrev StandsAt : ℕ → List Part → Type 0
StandsAt d parts = (place : ℕ) (p : Part) → is_begin p.piece ≡ false → depth_behind p ≡ d → first_misplaced place p parts ≡ None

abbrev StandsBehind : ℕ → List Part → Type 0
StandsBehind d parts = (place : ℕ) (p : Part) → depth_behind p ≡ d + 1 → first_misplaced place p parts ≡ None

-- the parts that are printed at a place stand in order, if what follows them does
abbrev Fits : PatternPlace → List Part → Type 0
Fits (InMessage c d q) parts = (more : List Part) → StandsAt d more → StandsAt d (parts ++ more)
Fits (InArgument d) parts = (more : List Part) → StandsAt d more → StandsAt d (parts ++ more)
Fits (InBranches kind d other) parts = (more : List Part) → StandsAt d more → StandsBehind d (parts ++ more)

-- a piece without branches
one_stands : (d : ℕ) (q : PatternPiece) (more : List Part) → is_begin q ≡ false → ends_branch q ≡ false → depth_behind (at_depth d q) ≡ d
    → StandsAt d more → StandsAt d (at_depth d q ∷ more)
one_stands d q more begins ends stays h place p start left =
    goes_on place p (at_depth d q) more (inner_follows p d q start left ends) (h (place + 1) (at_depth d q) begins stays)

fits : (at : PatternPlace) (parts : List Part) (text : List ℕ) → IsPrinted at parts text → Fits at parts
fits at parts text (message_ends c d q) = λ more h. h
fits at parts text (message_text c d q s rest ps k) = λ more h.
    one_stands d (Text s) (ps ++ more) refl refl refl (fits (InMessage c d (quoted_behind c q s)) ps rest k more h)
fits at parts text (message_hash c d q rest ps k) = λ more h.
    one_stands d Hash (ps ++ more) refl refl refl (fits (InMessage c d false) ps rest k more h)
fits at parts text (message_argument c d q argument rest inner ps k l) = λ more h.
    subst (λ (all : List Part). StandsAt d all) (sym (append_assoc inner ps more))
    (fits (InArgument d) inner argument k (ps ++ more) (fits (InMessage c d false) ps rest l more h))
fits at parts text (none_arg d name) = λ more h. one_stands d (Argument name) more refl refl refl h
fits at parts text (complex_arg d kind name offset rest ps k) = λ more h place p start left.
    let begin : Part = at_depth d (Begin kind name offset) in
    goes_on place p begin (ps ++ more) (inner_follows p d (Begin kind name offset) start left refl)
    (fits (InBranches kind d false) ps rest k more h (place + 1) begin refl)
fits at parts text (style_branch d kind other sel message rest inner ps k l) = λ more h place p left.
    let branch : Part = at_depth d (Branch sel) in
    let behind : StandsAt (d + 1) (ps ++ more) = λ next q start deep.
    fits (InBranches kind d (other || is_other sel)) ps rest l more h next q deep in
    let within : StandsAt (d + 1) (inner ++ (ps ++ more)) =
    fits (InMessage (context_of kind) (d + 1) false) inner message k (ps ++ more) behind in
    let P : List Part → Type 0 = λ all. first_misplaced (place + 1) branch all ≡ None in
    goes_on place p branch ((inner ++ ps) ++ more) (outer_follows p d (Branch sel) left refl)
    (subst P (sym (append_assoc inner ps more)) (within (place + 1) branch refl refl))
fits at parts text (style_ends d kind) = λ more h place p left.
    goes_on place p (at_depth d End) more (outer_follows p d End left refl) (h (place + 1) (at_depth d End) refl refl)

-- behind all parts of a message that isn't in a branch nothing is missing
nothing_missing : StandsAt 0 []
nothing_missing place p start left =
    let last : ℕ → Option ℕ = λ n. if nat_eq n 0 then None else Some place in
    ap last left

pub texts_in_order : PatternsPrintBack → (text : List ℕ) (parts : List Part) → IsPattern text parts → first_misplaced 0 before_all parts ≡ None
texts_in_order print_back text parts is =
    let printed = print_back _ text parts is in
    let P : List Part → Type 0 = λ all. first_misplaced 0 before_all all ≡ None in
    subst P (append-nil parts)
    (fits _ parts printed.0 printed.1 [] nothing_missing 0 before_all refl refl)
