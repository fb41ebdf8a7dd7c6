-- What precedes a number's exponent.
use Rattle.std.proofs.Common.{◌≡◌, ◌∙◌, ℕ, List, Option, Some, None, arith, ap, sym, take, unwrap_or}
use Rattle.std.proofs.Math.Seq.{take-length}
use Rattle.std.proofs.lemmas.Str.Pattern.{IsSplitOnceResult, split_once_first}
use Rattle.std.specs.Borrow.{Bor}
use Rattle.example_callers.specs.CompactUnits.{before_exponent}
use Rattle.icu_plurals.specs.Samples.{letter_c}

-- what `split_once` returns before the letter, or the whole text if there is no letter
pub cut_before : (number : List ℕ) (cut : Option (Bor (List ℕ) × Bor (List ℕ))) (whole parts : Bor (List ℕ) × Bor (List ℕ))
    → IsSplitOnceResult letter_c number cut → whole.0.now ≡ number → parts ≡ unwrap_or cut whole
    → parts.0.now ≡ before_exponent number
cut_before number None whole parts is_cut is_whole are =
    ap (λ (p : Bor (List ℕ) × Bor (List ℕ)). p.0.now) are ∙ is_whole
    ∙ sym (ap (λ (n : ℕ). take n number) (split_once_first letter_c number None is_cut (omega arith)) ∙ take-length number)
cut_before number (Some x) whole parts is_cut is_whole are =
    ap (λ (p : Bor (List ℕ) × Bor (List ℕ)). p.0.now) are
    ∙ (split_once_first letter_c number (Some x) is_cut (omega arith)).1
