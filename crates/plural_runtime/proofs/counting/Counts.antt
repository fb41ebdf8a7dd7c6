-- Counting by single steps.
use Rattle.std.proofs.Common.{◌≡◌, ℕ, zero, suc, ◌+◌, ◌≤◌, sym, ap, ◌∙◌, arith}
use Rattle.std.specs.Prelude.{min}
use Rattle.std.specs.Fn.{iterate}

-- m + n steps are m steps and then n steps
iterate-add : {A : Type 0} (f : A → A) (m n : ℕ) (x : A) → iterate f (m + n) x ≡ iterate f n (iterate f m x)
iterate-add f zero n x = let e : zero + n ≡ n = omega arith in ap (λ k. iterate f k x) e
iterate-add f (suc m) n x = let e : suc m + n ≡ suc (m + n) = omega arith in ap (λ k. iterate f k x) e ∙ iterate-add f m n (f x)

-- some steps are done, and the others remain
pub steps_left : {A : Type 0} (f : A → A) (here left all : ℕ) (x y : A) → all ≡ here + left → y ≡ iterate f here x
    → iterate f left y ≡ iterate f all x
steps_left f here left all x y e h = ap (iterate f left) h ∙ sym (iterate-add f here left x) ∙ ap (λ k. iterate f k x) (sym e)

-- one step is done
pub step_left : {A : Type 0} (f : A → A) (left all : ℕ) (x y : A) → all ≡ 1 + left → y ≡ f x → iterate f left y ≡ iterate f all x
step_left f left all x y e h = steps_left f 1 left all x y e h

-- a count of 64 bits stops at its greatest number
pub capped_count : (n count : ℕ) → count ≤ 18446744073709551615
    → iterate (λ (k : ℕ). min (k + 1) 18446744073709551615) n count ≡ min (count + n) 18446744073709551615
capped_count zero count h = omega arith
capped_count (suc n) count h = let again = capped_count n (min (count + 1) 18446744073709551615) (omega arith) in again ∙ omega arith
