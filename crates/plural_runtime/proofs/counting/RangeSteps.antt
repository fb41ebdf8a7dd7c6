-- One range more of the bytes of a list.
use Rattle.std.proofs.Common.{◌≡◌, ℕ, ◌+◌, ◌-◌, ◌%◌, ◌<◌, ◌≤◌, List, [], ◌∷◌, length, drop, take, refl, sym, ap, ◌∙◌, arith, Bool}
use Rattle.std.proofs.Common.{true, false, length-drop, eq-eqb}
use Rattle.std.specs.Prelude.{◌||◌, if◌then◌else◌, ◌==◌}
use Rattle.std.specs.List.{list_any}
use Rattle.std.proofs.lemmas.Bool.{eqb-true, eqb-false}
use Rattle.plural_runtime.specs.Inner.RuleReading.{range_in, ranges_in}
use Rattle.plural_reference.specs.Truth.{range_holds}
use Rattle.plural_runtime.proofs.counting.NeededGroups.{needed_from}

-- fewer than eight bytes hold no range
pub ranges-short : (bytes : List ℕ) → length bytes < 8 → ranges_in bytes ≡ []
ranges-short [] h = refl
ranges-short (a ∷ []) h = refl
ranges-short (a ∷ b ∷ []) h = refl
ranges-short (a ∷ b ∷ c ∷ []) h = refl
ranges-short (a ∷ b ∷ c ∷ d ∷ []) h = refl
ranges-short (a ∷ b ∷ c ∷ d ∷ e ∷ []) h = refl
ranges-short (a ∷ b ∷ c ∷ d ∷ e ∷ f ∷ []) h = refl
ranges-short (a ∷ b ∷ c ∷ d ∷ e ∷ f ∷ g ∷ []) h = refl
ranges-short (a ∷ b ∷ c ∷ d ∷ e ∷ f ∷ g ∷ i ∷ bytes) h = absurd (omega arith)

-- otherwise the first eight hold the first range, and the other bytes hold the other ranges
pub ranges-long : (bytes : List ℕ) → 8 ≤ length bytes → ranges_in bytes ≡ range_in (take 8 bytes) ∷ ranges_in (drop 8 bytes)
ranges-long [] h = absurd (omega arith)
ranges-long (a ∷ []) h = absurd (omega arith)
ranges-long (a ∷ b ∷ []) h = absurd (omega arith)
ranges-long (a ∷ b ∷ c ∷ []) h = absurd (omega arith)
ranges-long (a ∷ b ∷ c ∷ d ∷ []) h = absurd (omega arith)
ranges-long (a ∷ b ∷ c ∷ d ∷ e ∷ []) h = absurd (omega arith)
ranges-long (a ∷ b ∷ c ∷ d ∷ e ∷ f ∷ []) h = absurd (omega arith)
ranges-long (a ∷ b ∷ c ∷ d ∷ e ∷ f ∷ g ∷ []) h = absurd (omega arith)
ranges-long (a ∷ b ∷ c ∷ d ∷ e ∷ f ∷ g ∷ i ∷ bytes) h = refl

-- one more range of a list
pub any_more : (value : ℕ) (bytes : List ℕ) → 8 ≤ length bytes
    → list_any (range_holds value) (ranges_in bytes)
    ≡ (range_holds value (range_in (take 8 bytes)) || list_any (range_holds value) (ranges_in (drop 8 bytes)))
any_more value bytes h = ap (list_any (range_holds value)) (ranges-long bytes h)

-- the first range is needed, and the others if it doesn't contain the value
pub needed_more : (value : ℕ) (bytes : List ℕ) → 8 ≤ length bytes
    → needed_from value (ranges_in bytes)
    ≡ 1 + (if range_holds value (range_in (take 8 bytes)) then 0 else needed_from value (ranges_in (drop 8 bytes)))
needed_more value bytes h = ap (needed_from value) (ranges-long bytes h)

-- what the first range of bytes decides
pub record RangeStep (value : ℕ) (bytes rest : List ℕ) (holds : Bool) : Type 0 where
  pub any : list_any (range_holds value) (ranges_in bytes) ≡ (holds || list_any (range_holds value) (ranges_in rest))
  pub needed : needed_from value (ranges_in bytes) ≡ 1 + (if holds then 0 else needed_from value (ranges_in rest))

-- so it is if the first range and the others were split off
pub range_step : (value : ℕ) (bytes range rest : List ℕ) (holds : Bool) → 8 ≤ length bytes → range ≡ take 8 bytes
    → rest ≡ drop 8 bytes → holds ≡ range_holds value (range_in range) → RangeStep value bytes rest holds
range_step value bytes range rest holds h e f g =
    let b : range_holds value (range_in (take 8 bytes)) ≡ holds = ap (λ r. range_holds value (range_in r)) (sym e) ∙ sym g in
    record {
      any = any_more value bytes h ∙ ap (λ t. t || list_any (range_holds value) (ranges_in (drop 8 bytes))) b
          ∙ ap (λ r. holds || list_any (range_holds value) (ranges_in r)) (sym f);
      needed = needed_more value bytes h ∙ ap (λ t. 1 + (if t then 0 else needed_from value (ranges_in (drop 8 bytes)))) b
          ∙ ap (λ r. 1 + (if holds then 0 else needed_from value (ranges_in r))) (sym f);
    }

-- without a range, none is needed
pub nothing_needed : (value : ℕ) (bytes : List ℕ) → length bytes < 8 → needed_from value (ranges_in bytes) ≡ 0
nothing_needed value bytes h = ap (needed_from value) (ranges-short bytes h)

-- the rest after a range is whole, and contains a range unless it is empty
pub record WholeRest (rest : List ℕ) : Type 0 where
  pub whole : (length rest % 8 == 0) ≡ true
  pub some : (length rest == 0) ≡ false → 8 ≤ length rest
  pub short : (length rest == 0) ≡ true → length rest < 8

-- the rest after the first of whole ranges is whole
pub whole_rest : (bytes rest : List ℕ) → (length bytes % 8 == 0) ≡ true → 8 ≤ length bytes → rest ≡ drop 8 bytes → WholeRest rest
whole_rest bytes rest h l e =
    let n : length rest ≡ length bytes - 8 = ap length e ∙ omega (arith, length-drop 8 bytes) in
    let m : length rest % 8 ≡ 0 = omega (arith, n, eqb-true _ _ h) in
    record {
      whole = eq-eqb _ 0 m;
      some = λ f. omega (arith, m, eqb-false _ _ f);
      short = λ t. omega (arith, eqb-true _ _ t);
    }

-- without a range, none contains the value
pub none_holds : (value : ℕ) (bytes : List ℕ) → length bytes < 8 → list_any (range_holds value) (ranges_in bytes) ≡ false
none_holds value bytes h = ap (list_any (range_holds value)) (ranges-short bytes h)
