-- The number that a text of JSON writes.
use Rattle.std.proofs.Common.{◌≡◌, ℕ, ◌-◌, List, length, length-drop, take, take_all, true, false, refl, ap, ◌∙◌, arith}
use Rattle.std.specs.Prelude.{drop, slice_index, ◌==◌}
use Rattle.fast_float.specs.Text.{minus, scan}
use Rattle.serde_json.specs.Read.{number_from, number_of}

-- behind a minus, or without one
pub after_minus : (text : List ℕ) → (slice_index text 0 == minus) ≡ true → number_of text ≡ number_from true (scan (drop 1 text))
unfolding number_of
after_minus text sign = rw sign refl

pub without_minus : (text : List ℕ) → (slice_index text 0 == minus) ≡ false → number_of text ≡ number_from false (scan text)
unfolding number_of
without_minus text sign = rw sign refl

-- what stands behind the first byte
pub behind : (bytes text : List ℕ) → bytes ≡ text → take (length bytes - 1) (drop 1 bytes) ≡ drop 1 text
behind bytes text same = take_all (length bytes - 1) (drop 1 bytes) (omega (arith, length-drop 1 bytes)) ∙ ap (drop 1) same
