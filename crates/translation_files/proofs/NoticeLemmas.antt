-- Notices that are as grave as their codes.
use Rattle.std.proofs.Common.{◌≡◌, List, [], ◌∷◌, ◌++◌, Result, Ok, Err, OnOk, OnErr}
use Rattle.std.specs.Prelude.{All}
use Rattle.std.proofs.lemmas.List.Elements.{All-append, All-push, All-same}
use Rattle.translation_files.specs.NoticeSeverities.{IsGraded}
use Rattle.translation_files.specs.declared.notice.FileNotice.{FileNotice}

-- one more, or none
pub pushed : {T E : Type 0} (old new : List FileNotice) (notice : FileNotice) (r : Result T E) → OnOk r (new ≡ old ++ notice ∷ [])
    → OnErr r (new ≡ old) → All IsGraded old → IsGraded notice → All IsGraded new
pushed old new notice (Ok x) ok err all one = All-same IsGraded new (old ++ notice ∷ []) ok (All-push IsGraded old notice all one)
pushed old new notice (Err e) ok err all one = All-same IsGraded new old err all
