-- Numbers that digits write, up to a limit.
use Rattle.std.proofs.Common.{◌≡◌, ◌+◌, ◌-◌, ◌*◌, ◌<◌, ◌≤◌, ℕ, suc, List, [], ◌∷◌, ◌∙◌, min, length, drop, get_or, sym, ap, arith, add-one}
use Rattle.std.proofs.Math.Seq.{drop-cons}
use Rattle.std.proofs.lemmas.List.{drop_all}
use Rattle.format_arguments.specs.DirectiveBytes.{number_from}

-- numbers that are one up to a limit stay so
capped : (limit : ℕ) (s : List ℕ) (m n : ℕ) → min m limit ≡ min n limit → min (number_from m s) limit ≡ min (number_from n s) limit
capped limit [] m n e = e
capped limit (b ∷ s) m n e = capped limit s (m * 10 + (b - 48)) (n * 10 + (b - 48)) (omega arith)

-- a digit more
pub digit_more : (limit : ℕ) (s : List ℕ) (k n : ℕ) → k < length s
    → min (number_from (min limit (n * 10 + (get_or s k 0 - 48))) (drop (k + 1) s)) limit ≡ min (number_from n (drop k s)) limit
digit_more limit s k n lt =
    let x = get_or s k 0 in
    ap (λ (i : ℕ). min (number_from (min limit (n * 10 + (x - 48))) (drop i s)) limit) (add-one k)
    ∙ (capped limit (drop (suc k) s) (min limit (n * 10 + (x - 48))) (n * 10 + (x - 48)) (omega arith)
    ∙ sym (ap (λ (t : List ℕ). min (number_from n t) limit) (drop-cons s k 0 lt)))

-- no digit is left
pub no_digit_left : (limit : ℕ) (s : List ℕ) (k n : ℕ) → length s ≤ k → n ≤ limit → min (number_from n (drop k s)) limit ≡ n
no_digit_left limit s k n le within = ap (λ (t : List ℕ). min (number_from n t) limit) (drop_all k s le) ∙ omega arith
