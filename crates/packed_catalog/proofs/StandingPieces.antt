-- What stands in the bytes of a block.
use Rattle.std.proofs.Common.{◌≡◌, ℕ, ◌≤◌, List, [], ◌++◌, drop, take, refl, sym, ap, ◌∙◌, append_assoc}
use Rattle.std.proofs.lemmas.List.{take-append-drop}
use Rattle.std.proofs.lemmas.List.Folds.{drop_split}
use Rattle.std.specs.Prelude.{slice_range}
use Rattle.std.specs.Str.Iter.{HasSubslice}

-- no bytes
pub nothing_stands : (bytes : List ℕ) → HasSubslice bytes []
nothing_stands bytes = ([], bytes, refl)

-- a range of those behind a place
pub range_stands : (bytes content : List ℕ) (place from to : ℕ) → content ≡ drop place bytes → from ≤ to
    → HasSubslice bytes (slice_range content from to)
range_stands bytes content place from to is le =
    let cut : content ≡ take from content ++ (slice_range content from to ++ drop to content) =
    sym (take-append-drop from content) ∙ ap (λ x. take from content ++ x) (drop_split content from to le) in (
      take place bytes ++ take from content,
      drop to content,
      sym (take-append-drop place bytes) ∙ ap (λ x. take place bytes ++ x) (sym is ∙ cut)
          ∙ sym (append_assoc (take place bytes) (take from content) (slice_range content from to ++ drop to content)),
    )
