-- A byte for each of many integers, written at the front of a buffer.
use Rattle.std.proofs.Common.{◌≡◌, ℕ, ◌+◌, ◌<◌, ◌≤◌, List, [], ◌∷◌, ◌++◌, length, take, drop, get_or, sym, ◌∙◌, ap, subst, arith}
use Rattle.std.specs.Prelude.{map, slice_set, if◌then◌else◌}
use Rattle.std.proofs.Math.Seq.{take-length}
use Rattle.std.proofs.lemmas.Bool.{le-leb, lt-leb}
use Rattle.std.proofs.lemmas.List.{drop-drop, drop-set-lt, length-map, map-append, take-append-drop, take_more, take_more_set}
use Rattle.plural_exports.specs.Results.{filled_buffer}

-- the entries below a place, once one more is written
pub front_more : (entry : ℕ → ℕ) (numbers out : List ℕ) (k y : ℕ) → k < length numbers → k < length out
    → y ≡ entry (get_or numbers k 0) → take k out ≡ map entry (take k numbers)
    → take (k + 1) (slice_set out k y) ≡ map entry (take (k + 1) numbers)
front_more entry numbers out k y within inside is front =
    take_more_set out k y inside
    ∙ ap (λ (l : List ℕ). l ++ y ∷ []) front
    ∙ ap (λ (b : ℕ). map entry (take k numbers) ++ b ∷ []) is
    ∙ sym (map-append entry (take k numbers) (get_or numbers k 0 ∷ []))
    ∙ ap (map entry) (sym (take_more numbers k 0 within))

-- what is behind them stays
pub behind_more : (out old : List ℕ) (k y : ℕ) → drop k out ≡ drop k old → drop (k + 1) (slice_set out k y) ≡ drop (k + 1) old
behind_more out old k y behind =
    drop-set-lt (k + 1) out k y (omega arith)
    ∙ sym (drop-drop 1 k out)
    ∙ ap (drop 1) behind
    ∙ drop-drop 1 k old

-- all entries, and what is behind them
pub all_written : (entry : ℕ → ℕ) (numbers out old : List ℕ) (k : ℕ) → take k out ≡ map entry (take k numbers)
    → drop k out ≡ drop k old → k ≡ length numbers → out ≡ map entry numbers ++ drop (length numbers) old
all_written entry numbers out old k front behind all =
    let P : ℕ → Type 0 = λ n. (take n out ≡ map entry (take n numbers)) × (drop n out ≡ drop n old) in
    let whole : P (length numbers) = subst P all (front, behind) in
    sym (take-append-drop (length numbers) out)
    ∙ ap (λ (l : List ℕ). l ++ drop (length numbers) out) (whole.0 ∙ ap (map entry) (take-length numbers))
    ∙ ap (λ (l : List ℕ). map entry numbers ++ l) whole.1

-- a buffer with room for them is filled_buffer by them
pub filled_all : (entry : ℕ → ℕ) (numbers old new : List ℕ) → length numbers ≤ length old
    → new ≡ map entry numbers ++ drop (length numbers) old → new ≡ filled_buffer (map entry numbers) old
filled_all entry numbers old new room written =
    written
    ∙ ap (λ (n : ℕ). map entry numbers ++ drop n old) (sym (length-map numbers entry))
    ∙ ap (λ t. if t then (map entry numbers ++ drop (length (map entry numbers)) old) else old)
    (sym (le-leb (length (map entry numbers)) (length old) (omega (arith, room, length-map numbers entry))))

-- one without room stays as it is
pub filled_none : (entry : ℕ → ℕ) (numbers old : List ℕ) → length old < length numbers → old ≡ filled_buffer (map entry numbers) old
filled_none entry numbers old short =
    ap (λ t. if t then (map entry numbers ++ drop (length (map entry numbers)) old) else old)
    (sym (lt-leb (length (map entry numbers)) (length old) (omega (arith, short, length-map numbers entry))))
