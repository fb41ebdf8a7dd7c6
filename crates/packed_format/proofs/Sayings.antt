-- What is said of the parts of a block from a place on.
use Rattle.std.proofs.Common.{◌≡◌, ◌∙◌, ◌+◌, ◌<◌, ◌≤◌, ℕ, List, ◌∷◌, Bor, arith, drop, length, length-drop, sym, ap, subst, Option, None}
use Rattle.message_pattern.specs.declared.part.ArgumentKind.{ArgumentKind}
use Rattle.message_pattern.specs.declared.part.Part as parts
use Rattle.message_pattern.specs.declared.part.Piece.TheVariants as piece
use Rattle.std.specs.Prelude.{slice_index}
use Rattle.message_pattern.specs.PatternParts.{Part, part_view, offset_view, Branching, branches_of}
use Rattle.message_format.specs.FormatArguments.{Argument, Value, value_named}
use Rattle.message_format.specs.FormatMeaning.{PatternOutcome, Said, Faulty, MessageSays}
use Rattle.message_format.specs.FormatSteps.{TwoRules, Chooses, IsChoice}
use Rattle.message_format.specs.Inner.FormatViews.{GoesOnBehind}
use Rattle.message_format.proofs.Walk.{at_branch, begins, begun}
use Rattle.packed_pattern.specs.PartOrder.{before_all, first_misplaced}
use Rattle.packed_pattern.specs.PartPlaces.{PlacedPart, IsPlaced}
use Rattle.packed_format.proofs.ArgumentEnds.{behind_argument}
use Rattle.packed_format.proofs.Begun.{branches_begun}
use Rattle.packed_format.proofs.BehindParts.{from_place}

-- the parts from a place on, of which the first is placed there
pub headed_by : (placed : PlacedPart) (ps : List Part) (at : ℕ) (p : parts.Part) → IsPlaced placed ps at → part_view p ≡ placed.part
    → drop at ps ≡ part_view p ∷ drop (at + 1) ps
headed_by placed ps at p h is = from_place ps at placed.part h.part ∙ ap (λ (q : Part). q ∷ drop (at + 1) ps) (sym is)

-- where the message ends behind a branch, the branch is the last that is said
pub at_last : (arguments : List Argument) (rules : TwoRules) (hash number now : List ℕ) (ps branch rest : List Part)
    → GoesOnBehind arguments rules hash number now now ps branch rest
    → ((before : List ℕ) → MessageSays arguments rules hash before rest (Said before))
    → (o : PatternOutcome) → MessageSays arguments rules number now branch o → MessageSays arguments rules hash now ps o
at_last arguments rules hash number now ps branch rest g ended (Said said) j = g.comes said (Said said) j (ended said)
at_last arguments rules hash number now ps branch rest g ended (Faulty fault name) j = g.breaks fault name j

-- an argument that begins at a place chooses a branch at sight
pub goes_by_branch : (arguments : List Argument) (rules : TwoRules) (hash number now : List ℕ) (placed : PlacedPart) (ps : List Part)
    (at branch n : ℕ) (p : parts.Part) (kind : ArgumentKind) (name : Bor (List ℕ)) (offset : Option (Bor (List ℕ))) (value : Option Value)
    → first_misplaced 0 before_all ps ≡ None → IsPlaced placed ps at → part_view p ≡ placed.part
    → p.piece ≡ piece.Begin kind name offset → value ≡ value_named name.now arguments
    → IsChoice rules hash kind name.now (offset_view offset) (branches_of placed.part.depth (drop (at + 1) ps)) value
    (Chooses number (drop branch ps))
    → n ≡ slice_index placed.places 0
    → GoesOnBehind arguments rules hash number now now (drop at ps) (drop branch ps) (drop (at + 2 + n) ps)
goes_by_branch arguments rules hash number now placed ps at branch n p kind name offset value ordered h is begin named chosen e =
    let rest = drop (at + 1) ps in
    let there = headed_by placed ps at p h is in
    let here = begun (drop at ps) p rest kind name offset there begin in
    at_branch arguments rules hash number now (drop at ps) p rest (drop branch ps) (drop (at + 2 + n) ps) there
    (begins arguments rules hash (drop at ps) p rest kind name offset value (Chooses number (drop branch ps)) there begin named
    (subst (λ (bs : List Branching). IsChoice rules hash kind name.now (offset_view offset) bs value (Chooses number (drop branch ps)))
    (branches_begun placed ps at h) chosen))
    (behind_argument placed ps at n ordered h here e)

-- fewer parts stand from a place behind another one on
module _ (ps : List Part) (at : ℕ) (there : at < length ps) where
  pub fewer_behind : (to : ℕ) → at < to → length (drop to ps) < length (drop at ps)
  fewer_behind to behind = omega (arith, length-drop to ps, length-drop at ps)

  pub no_more_behind : (to from : ℕ) → at < to → length (drop at ps) ≤ length (drop from ps) → length (drop to ps) ≤ length (drop from ps)
  no_more_behind to from behind shorter = omega (arith, length-drop to ps, length-drop at ps, shorter)
