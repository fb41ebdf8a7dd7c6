-- The branches of an argument, part by part.
use Rattle.std.proofs.Common.{◌≡◌, ℕ, ◌<◌, ◌≤◌, true, false, List, [], ◌∷◌, ◌++◌, take}
use Rattle.std.proofs.Common.{refl, ◌∙◌, arith}
use Rattle.std.specs.Prelude.{nat_lt, Option}
use Rattle.std.proofs.lemmas.Bool.Decides.{nat_tests}
use Rattle.message_pattern.specs.PatternParts.{Selector, parts_view, selector_view, branches_of}
use Rattle.message_pattern.specs.declared.part.Part as parts
use Rattle.message_pattern.specs.declared.part.Piece as pieces
use Rattle.message_pattern.specs.declared.part.Piece.TheVariants as piece
use Rattle.message_pattern.specs.declared.part.Selector as selectors
use Rattle.message_report.specs.FormFaults.{Language}
use Rattle.message_report.specs.FoundInMessages.{MessageFound}
use Rattle.message_report.specs.Inner.ArgumentViews.{branching}
use Rattle.message_report.specs.Inner.ToldFindings.{TellsFindings, remembered}
use Rattle.message_report.specs.MessageFindings.{MessageFinding}
use Rattle.message_report.specs.MessagePlaces.{ArgumentPlace}
use Rattle.message_report.specs.MessagesReport.{branch_findings, findings_at, most_compared}
use Rattle.message_report.specs.PatternFaults.{PluralArgument, branch_fault}
use Rattle.message_report.specs.declared.branch_fault.BranchFault.{BranchFault}
use Rattle.message_report.proofs.TellLemmas.{Going, completes, continues, remembers}

-- what stands for a part that isn't there
abbrev pub no_part : parts.Part
no_part = record { depth = 0; piece = piece.Text record { ref_ptr = (0, 0); now = [] } }

-- a part that is deeper
pub deeper : (depth : ℕ) (ps rest : List parts.Part) (p : parts.Part) → ps ≡ p ∷ rest → depth < p.depth
    → branches_of depth (parts_view ps) ≡ branches_of depth (parts_view rest)
deeper depth ps rest p is deep =
    let test : nat_lt depth p.depth ≡ true = grind (arith, nat_tests) in
    rw is (rw test refl)

-- a selector
pub at_selector : (depth : ℕ) (ps rest : List parts.Part) (p : parts.Part) (selector : selectors.Selector) → ps ≡ p ∷ rest
    → p.depth ≤ depth → p.piece ≡ piece.Branch selector
    → branches_of depth (parts_view ps) ≡ branching selector rest ∷ branches_of depth (parts_view rest)
at_selector depth ps rest p selector is low branch =
    let test : nat_lt depth p.depth ≡ false = grind (arith, nat_tests) in
    rw is (rw (test, branch) refl)

-- neither
pub other_part : (depth : ℕ) (ps rest : List parts.Part) (p : parts.Part) → ps ≡ p ∷ rest → p.depth ≤ depth
    → ((s : selectors.Selector) → p.piece ≡ piece.Branch s → ⊥) → branches_of depth (parts_view ps) ≡ []
other_part depth ps rest p is low not = rw is (by p.piece refl)
  where
    test : nat_lt depth p.depth ≡ false
    test = grind (arith, nat_tests)

    by : (x : pieces.Piece) → p.piece ≡ x → branches_of depth (parts_view (p ∷ rest)) ≡ []
    by (piece.Text t) e = rw (test, e) refl
    by piece.Hash e = rw (test, e) refl
    by (piece.Argument name) e = rw (test, e) refl
    by (piece.Begin kind name offset) e = rw (test, e) refl
    by (piece.Branch s) e = absurd (not s e)
    by piece.End e = rw (test, e) refl

-- ---- In a loop

-- the findings of the remaining branches complete those that were told
abbrev pub GoingOn : Language → ArgumentPlace → PluralArgument → ℕ → MessageFound → ℕ → MessageFound → List Selector → List parts.Part → List MessageFinding
    → Type 0
GoingOn language place a first old count now seen left all =
    (before : List Selector) × (seen ≡ take most_compared before)
    × Going first old count now (branch_findings language place a before (branches_of a.depth (parts_view left))) all

-- a part is passed
pub passes : (language : Language) (place : ArgumentPlace) (a : PluralArgument) (first : ℕ) (old : MessageFound) (count : ℕ) (now : MessageFound)
    (seen : List Selector) (ps rest : List parts.Part) (p : parts.Part) (all : List MessageFinding) → ps ≡ p ∷ rest → a.depth < p.depth
    → GoingOn language place a first old count now seen ps all → GoingOn language place a first old count now seen rest all
passes language place a first old count now seen ps rest p all is deep so_far = (
  so_far.0,
  so_far.1,
  rw (deeper a.depth ps rest p is deep) at so_far.2,
)

-- a branch is told
pub tells_branch : (language : Language) (place : ArgumentPlace) (a : PluralArgument) (first : ℕ) (old : MessageFound) (count : ℕ) (now : MessageFound)
    (seen : List Selector) (ps rest : List parts.Part) (p : parts.Part) (selector : selectors.Selector) (all : List MessageFinding)
    (fault : Option BranchFault) (next : ℕ) (new : MessageFound) (after : List Selector)
    → ps ≡ p ∷ rest → p.depth ≤ a.depth → p.piece ≡ piece.Branch selector
    → GoingOn language place a first old count now seen ps all
    → fault ≡ branch_fault language a seen (branching selector rest)
    → TellsFindings count now next new (findings_at place (selector_view selector) fault)
    → after ≡ remembered seen (selector_view selector)
    → GoingOn language place a first old next new after rest all
tells_branch language place a first old count now seen ps rest p selector all fault next new after is low branch so_far found told more = (
  so_far.0 ++ selector_view selector ∷ [],
  more ∙ remembers so_far.0 seen (selector_view selector) so_far.1,
  continues first old count now next new (findings_at place (selector_view selector) fault)
      (branch_findings language place a (so_far.0 ++ selector_view selector ∷ []) (branches_of a.depth (parts_view rest)))
      (branch_findings language place a so_far.0 (branches_of a.depth (parts_view ps))) all whole so_far.2 told,
)
  where
    whole : branch_findings language place a so_far.0 (branches_of a.depth (parts_view ps))
        ≡ findings_at place (selector_view selector) fault
        ++ branch_findings language place a (so_far.0 ++ selector_view selector ∷ []) (branches_of a.depth (parts_view rest))
    whole = rw (at_selector a.depth ps rest p selector is low branch, found, so_far.1) refl

-- no branch is left
pub ends_branches : (language : Language) (place : ArgumentPlace) (a : PluralArgument) (first : ℕ) (old : MessageFound) (count : ℕ) (now : MessageFound)
    (seen : List Selector) (ps : List parts.Part) (all : List MessageFinding) → branches_of a.depth (parts_view ps) ≡ []
    → GoingOn language place a first old count now seen ps all → TellsFindings first old count now all
ends_branches language place a first old count now seen ps all none so_far =
    completes first old count now (branch_findings language place a so_far.0 (branches_of a.depth (parts_view ps))) all
    (rw none refl) so_far.2
