-- The findings of a pattern, part by part.
use Rattle.std.proofs.Common.{◌≡◌, ℕ, List, [], ◌∷◌, ◌++◌, Option, Some, None, refl, sym, subst, append_assoc}
use Rattle.std.specs.Borrow.{Bor}
use Rattle.std.specs.Prelude.{is_some, Result, Ok, Err, IfOk}
use Rattle.std.proofs.lemmas.List.{append-nil}
use Rattle.message_pattern.specs.PatternParts.{Part, offset_view, parts_view, piece_view}
use Rattle.message_pattern.specs.declared.part.ArgumentKind.{ArgumentKind}
use Rattle.message_pattern.specs.declared.part.Part as parts
use Rattle.message_pattern.specs.declared.part.Piece as pieces
use Rattle.message_pattern.specs.declared.part.Piece.TheVariants as piece
use Rattle.message_report.specs.FoundInMessages.{MessageFound}
use Rattle.message_report.specs.Inner.ToldFindings.{TellsFindings, TellsThose}
use Rattle.message_report.specs.MessageFindings.{MessageFinding}
use Rattle.message_report.specs.MessagePlaces.{FilePatternPlace}
use Rattle.message_report.specs.MessagesReport.{HasPatternFindings, HasPieceFindings}
use Rattle.message_report.specs.PatternFaults.{TwoLanguages}
use Rattle.message_report.proofs.TellLemmas.{tells_both, tells_none}

-- a piece that begins no argument has no findings
pub no_findings : (two : TwoLanguages) (place : FilePatternPlace) (depth : ℕ) (ps : List Part) (x : pieces.Piece)
    → ((kind : ArgumentKind) (name : Bor (List ℕ)) (offset : Option (Bor (List ℕ))) → x ≡ piece.Begin kind name offset → ⊥)
    → HasPieceFindings two place depth (piece_view x) ps []
no_findings two place depth ps (piece.Text t) not = refl
no_findings two place depth ps piece.Hash not = refl
no_findings two place depth ps (piece.Argument name) not = refl
no_findings two place depth ps (piece.Begin kind name offset) not = absurd (not kind name offset refl)
no_findings two place depth ps (piece.Branch s) not = refl
no_findings two place depth ps piece.End not = refl

-- an offset is there or not, as it is seen
pub same_offset : (offset : Option (Bor (List ℕ))) → is_some offset ≡ is_some (offset_view offset)
same_offset None = refl
same_offset (Some digits) = refl

-- findings that are told are those that are meant
pub those_told : {E : Type 0} (Are : List MessageFinding → Type 0) (before : ℕ) (old new : MessageFound) (findings : List MessageFinding) (r : Result ℕ E)
    → Are findings
    → IfOk r (λ count. TellsFindings before old count new findings) → IfOk r (λ count. TellsThose Are before old count new)
those_told {E} Are before old new findings (Ok count) are told = (findings, are, told)
those_told {E} Are before old new findings (Err e) are told = tt

-- ---- In a loop

-- whatever findings the remaining parts have, with those that were told they are the pattern's
abbrev pub GoingPattern : TwoLanguages → FilePatternPlace → List Part → List Part → MessageFound → ℕ → MessageFound → Type 0
GoingPattern two place all left old count now =
    (told : List MessageFinding) × TellsFindings 0 old count now told
    × ((more : List MessageFinding) → HasPatternFindings two place left more → HasPatternFindings two place all (told ++ more))

pub pattern_starts : (two : TwoLanguages) (place : FilePatternPlace) (all : List Part) (old : MessageFound) → GoingPattern two place all all old 0 old
pattern_starts two place all old = ([], tells_none 0 old, λ more h. h)

-- a part is told
pub part_told : (two : TwoLanguages) (place : FilePatternPlace) (all : List Part) (ps rest : List parts.Part) (p : parts.Part) (old : MessageFound)
    (count : ℕ) (now : MessageFound) (next : ℕ) (new : MessageFound) → ps ≡ p ∷ rest → GoingPattern two place all (parts_view ps) old count now
    → TellsThose (HasPieceFindings two place p.depth (piece_view p.piece) (parts_view rest)) count now next new
    → GoingPattern two place all (parts_view rest) old next new
part_told two place all ps rest p old count now next new is so_far told = (
  so_far.0 ++ told.0,
  tells_both 0 old count now next new so_far.0 told.0 so_far.1 told.2,
  λ more h.
      subst (λ (l : List MessageFinding). HasPatternFindings two place all l) (sym (append_assoc so_far.0 told.0 more))
      (so_far.2 (told.0 ++ more)
      (subst (λ (l : List parts.Part). HasPatternFindings two place (parts_view l) (told.0 ++ more)) (sym is)
      (told.0, more, told.1, h, refl))),
)

-- all are told
pub pattern_told : (two : TwoLanguages) (place : FilePatternPlace) (all : List Part) (ps : List parts.Part) (old : MessageFound)
    (count : ℕ) (now : MessageFound)
    → ps ≡ [] → GoingPattern two place all (parts_view ps) old count now → TellsThose (HasPatternFindings two place all) 0 old count now
pattern_told two place all ps old count now none so_far = (
  so_far.0,
  subst (λ (l : List MessageFinding). HasPatternFindings two place all l) (append-nil so_far.0)
      (so_far.2 [] (subst (λ (l : List parts.Part). HasPatternFindings two place (parts_view l) []) (sym none) refl)),
  so_far.1,
)
