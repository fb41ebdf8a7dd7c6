-- A walk over the parts of a message.
use Rattle.std.proofs.Common.{◌≡◌, ◌∙◌, ◌++◌, ◌<◌, ◌≤◌, ℕ, List, [], ◌∷◌, Bor, drop, length, arith, Option, Some, None, Err, refl}
use Rattle.std.proofs.Common.{sym, ap, subst, inl, inr}
use Rattle.message_pattern.specs.declared.part.Part as parts
use Rattle.message_pattern.specs.declared.part.ArgumentKind.{ArgumentKind}
use Rattle.message_pattern.specs.declared.part.Piece as pieces
use Rattle.message_pattern.specs.declared.part.Piece.TheVariants as piece
use Rattle.message_pattern.specs.PatternParts.{Part, part_view, piece_view, offset_view, branches_of}
use Rattle.message_format.specs.declared.error.FormatError.{FormatError}
use Rattle.message_format.specs.declared.error.FormatError.TheVariants as error
use Rattle.message_format.specs.FormatArguments.{Argument, Value, value_named}
use Rattle.message_format.specs.FormatBranches.{behind_end}
use Rattle.message_format.specs.FormatParts.{branches_at, first_depth, BeginWithChoice}
use Rattle.message_format.specs.FormatSteps.{Step, Stops, Prints, Chooses, TwoRules, IsChoice, IsPieceStep}
use Rattle.message_format.specs.FormatMeaning.{PatternOutcome, Said, Faulty, MessageSays, ends, stops, prints, chooses, breaks, fails, PatternSays, SaysExactly}
use Rattle.message_format.specs.Inner.FormatViews.{GoesOnWithRest, GoesOnBehind, GivesFault, IsFaultOfParts, outcome_of}
use Rattle.message_format.specs.declared.error.ArgumentFault.{ArgumentFault}
use Rattle.message_format.proofs.OneSaying.{OneNumber, one_outcome}

-- what the part does that these follow
abbrev pub PartIs : List Argument → TwoRules → List ℕ → parts.Part → List Part → Step → Type 0
PartIs arguments rules hash p rest s = IsPieceStep arguments rules hash p.depth (piece_view p.piece) rest s

-- it does what its piece does
pub does : (arguments : List Argument) (rules : TwoRules) (hash : List ℕ) (p : parts.Part) (rest : List Part) (what : pieces.Piece)
    (s : Step)
    → p.piece ≡ what → IsPieceStep arguments rules hash p.depth (piece_view what) rest s → PartIs arguments rules hash p rest s
does arguments rules hash p rest what s is h =
    subst (λ (q : pieces.Piece). IsPieceStep arguments rules hash p.depth (piece_view q) rest s) (sym is) h

-- it chooses what the argument chooses that begins there
pub begins : (arguments : List Argument) (rules : TwoRules) (hash : List ℕ) (ps : List Part) (p : parts.Part) (rest : List Part)
    (kind : ArgumentKind) (name : Bor (List ℕ)) (offset : Option (Bor (List ℕ)))
    (value : Option Value) (s : Step) → ps ≡ part_view p ∷ rest → p.piece ≡ piece.Begin kind name offset
    → value ≡ value_named name.now arguments
    → IsChoice rules hash kind name.now (offset_view offset) (branches_at ps) value s → PartIs arguments rules hash p rest s
begins arguments rules hash ps p rest kind name offset value s e is named h =
    does arguments rules hash p rest (piece.Begin kind name offset) s is
    (subst (λ (v : Option Value). IsChoice rules hash kind name.now (offset_view offset) (branches_of p.depth rest) v s) named
    (subst (λ (l : List Part). IsChoice rules hash kind name.now (offset_view offset) (branches_at l) value s) e h))

-- an argument begins
pub begun : (ps : List Part) (p : parts.Part) (rest : List Part) (kind : ArgumentKind) (name : Bor (List ℕ))
    (offset : Option (Bor (List ℕ))) → ps ≡ part_view p ∷ rest
    → p.piece ≡ piece.Begin kind name offset → BeginWithChoice ps
begun ps p rest kind name offset e is = subst (λ (l : List Part). BeginWithChoice l) (sym e) (rw is tt)

-- the parts end
pub at_end : (arguments : List Argument) (rules : TwoRules) (hash before : List ℕ) (ps : List Part) → ps ≡ []
    → MessageSays arguments rules hash before ps (Said before)
at_end arguments rules hash before ps e =
    subst (λ (l : List Part). MessageSays arguments rules hash before l (Said before)) (sym e) (ends hash before)

-- the message ends
pub at_stop : (arguments : List Argument) (rules : TwoRules) (hash before : List ℕ) (ps : List Part) (p : parts.Part) (rest : List Part)
    → ps ≡ part_view p ∷ rest → PartIs arguments rules hash p rest Stops → MessageSays arguments rules hash before ps (Said before)
at_stop arguments rules hash before ps p rest e h =
    subst (λ (l : List Part). MessageSays arguments rules hash before l (Said before)) (sym e)
    (stops hash before (part_view p) rest h)

-- a text is printed
pub at_text : (arguments : List Argument) (rules : TwoRules) (hash before text new : List ℕ) (ps : List Part) (p : parts.Part)
    (rest : List Part)
    → ps ≡ part_view p ∷ rest → PartIs arguments rules hash p rest (Prints text) → new ≡ before ++ text
    → GoesOnWithRest arguments rules hash before new ps rest
at_text arguments rules hash before text new ps p rest e h n = record {
  comes = λ o k.
      subst (λ (l : List Part). MessageSays arguments rules hash before l o) (sym e)
      (prints hash before text (part_view p) rest o h (subst (λ (t : List ℕ). MessageSays arguments rules hash t rest o) n k));
}

-- fewer parts follow
pub rest_fewer : (ps : List Part) (p : parts.Part) (rest : List Part) → ps ≡ part_view p ∷ rest → length rest < length ps
rest_fewer ps p rest e = subst (λ (l : List Part). length rest < length l) (sym e) (omega arith)

-- a branch is chosen
pub at_branch : (arguments : List Argument) (rules : TwoRules) (hash number before : List ℕ) (ps : List Part) (p : parts.Part)
    (rest branch after : List Part)
    → ps ≡ part_view p ∷ rest → PartIs arguments rules hash p rest (Chooses number branch)
    → after ≡ behind_end (first_depth ps) (drop 1 ps)
    → GoesOnBehind arguments rules hash number before before ps branch after
at_branch arguments rules hash number before ps p rest branch after e h a =
    let n : after ≡ behind_end p.depth rest = subst (λ (l : List Part). after ≡ behind_end (first_depth l) (drop 1 l)) e a in
    record {
      comes = λ said o j k.
          subst (λ (l : List Part). MessageSays arguments rules hash before l o) (sym e)
          (chooses hash number before said (part_view p) rest branch o h j
          (subst (λ (l : List Part). MessageSays arguments rules hash said l o) n k));
      breaks = λ fault name j.
          subst (λ (l : List Part). MessageSays arguments rules hash before l (Faulty fault name)) (sym e)
          (breaks hash number before name (part_view p) rest branch fault h j);
    }

-- fewer follow then, and in the branch
pub branch_fewer : (ps : List Part) (p : parts.Part) (rest branch after : List Part) → ps ≡ part_view p ∷ rest
    → length branch ≤ length (drop 1 ps)
    → length after ≤ length (drop 1 ps) → (length after < length ps) × (length branch < length ps)
branch_fewer ps p rest branch after e shorter fewer =
    let s : length branch ≤ length rest = subst (λ (l : List Part). length branch ≤ length (drop 1 l)) e shorter in
    let f : length after ≤ length rest = subst (λ (l : List Part). length after ≤ length (drop 1 l)) e fewer in
    subst (λ (l : List Part). (length after < length l) × (length branch < length l)) (sym e) (omega (arith, f), omega (arith, s))

-- an argument has a fault
pub at_fault : (arguments : List Argument) (rules : TwoRules) (hash before : List ℕ) (ps : List Part) (p : parts.Part) (rest : List Part)
    (f : FormatError)
    → ps ≡ part_view p ∷ rest → GivesFault (PartIs arguments rules hash p rest) f → IsFaultOfParts arguments rules hash ps before f
at_fault arguments rules hash before ps p rest (error.Argument fault name) e h =
    subst (λ (l : List Part). MessageSays arguments rules hash before l (Faulty fault name.now)) (sym e)
    (fails hash before name.now (part_view p) rest fault h)
at_fault arguments rules hash before ps p rest error.Memory e h = tt

-- ---- a whole message

-- what is a fault of the parts that are left is one of all
pub fault_of_all : (arguments : List Argument) (rules : TwoRules) (hash number before old : List ℕ) (whole ps : List Part) (f : FormatError)
    → IsFaultOfParts arguments rules number ps before f
    → ((fault : ArgumentFault) (name : List ℕ) → MessageSays arguments rules number before ps (Faulty fault name)
    → MessageSays arguments rules hash old whole (Faulty fault name))
    → IsFaultOfParts arguments rules hash whole old f
fault_of_all arguments rules hash number before old whole ps (error.Argument fault name) h says = says fault name.now h
fault_of_all arguments rules hash number before old whole ps error.Memory h says = tt

-- ---- the whole pattern

-- what is said is the only thing
pub exactly : OneNumber → (arguments : List Argument) (rules : TwoRules) (ps : List Part) (outcome : Option PatternOutcome)
    → ((o : PatternOutcome) → outcome ≡ Some o → PatternSays arguments rules ps o) → SaysExactly arguments rules ps outcome
exactly one arguments rules ps None only = record { only = only; every = λ o h. inr refl }
exactly one arguments rules ps (Some x) only =
    record { only = only; every = λ o h. inl (ap Some (one_outcome one (only x refl) h)) }

-- an outcome of a walk over the whole pattern
pub whole : (arguments : List Argument) (rules : TwoRules) (ps : List Part) (x o : PatternOutcome) → PatternSays arguments rules ps x
    → Some x ≡ Some o → PatternSays arguments rules ps o
whole arguments rules ps x o h e = let f : x ≡ o = cc in subst (λ (y : PatternOutcome). PatternSays arguments rules ps y) f h

-- an error of a walk over the whole pattern
pub whole_error : (arguments : List Argument) (rules : TwoRules) (ps : List Part) (f : FormatError) (o : PatternOutcome)
    → IsFaultOfParts arguments rules [] ps [] f → outcome_of (Err f) ≡ Some o → PatternSays arguments rules ps o
whole_error arguments rules ps (error.Argument fault name) o h k = whole arguments rules ps (Faulty fault name.now) o h k
whole_error arguments rules ps error.Memory o h k = cc
