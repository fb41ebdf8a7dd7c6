use Rattle.std.proofs.Common.{◌≡◌, ◌+◌, ◌-◌, ℕ, List, length, take, drop, min, arith, ◌∙◌, ap}
use Rattle.std.proofs.lemmas.List.{take_rest, drop_min, drop-drop}
use Rattle.std.proofs.lemmas.Result.{IfOk-weaker}
use Rattle.fixed_decimal.specs.Inner.TextParts.{places_of_sides, places_around}
use Rattle.fixed_decimal.proofs.unsigned.UnsignedDecimal.from_point.Goals as goal

-- what stands after the point
tail : (text rest : List ℕ) (n m : ℕ) → rest ≡ drop n text → m ≡ min (length rest) 1
    → take (length rest - m) (drop m rest) ≡ drop (n + 1) text
tail text rest n m e one =
    let least : m ≡ min 1 (length rest) = omega arith in
    take_rest rest m ∙ ap (λ k. drop k rest) least ∙ drop_min 1 rest ∙ ap (λ xs. drop 1 xs) e ∙ drop-drop 1 n text

pub returns-clause-places : goal.returns-clause-places
returns-clause-places c =
    let text = c.args.text.now in
    let n = c.args.point in
    let whole = c.split_at.result.0.now in
    let rest = c.split_at.result.1.now in
    let fraction : List ℕ = take (length rest - c.min.result) (drop c.min.result rest) in
    let front : whole ≡ take n text = c.split_at.ensures.front in
    let behind : fraction ≡ drop (n + 1) text = tail text rest n c.min.result c.split_at.ensures.back c.min.ensures in
    IfOk-weaker c.from_digits.result (λ x. x ≡ places_of_sides whole fraction) (λ x. x ≡ places_around text n)
    (λ x e. e ∙ ap (λ w. places_of_sides w fraction) front ∙ ap (λ f. places_of_sides (take n text) f) behind) c.from_digits.ensures.places
