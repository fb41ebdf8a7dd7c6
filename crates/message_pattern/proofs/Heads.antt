-- The heads of arguments, step by step.
use Rattle.std.proofs.Common.{◌≡◌, ◌==◌, ℕ, List, [], ◌∷◌, Bool, true, false, Option, Err, length, refl, sym, ap, ◌∙◌, if◌then◌else◌}
use Rattle.pattern_bytes.specs.declared.bytes.Class.TheVariants.{Letter}
use Rattle.message_pattern.specs.declared.error.FaultKind.TheVariants.{ExpectedType}
use Rattle.message_pattern.specs.declared.part.ArgumentKind.{ArgumentKind}
use Rattle.pattern_bytes.specs.PatternBytes.{is_empty_text, class_front, behind_run, after_white}
use Rattle.message_pattern.specs.PatternHeads.{missing_front_fault, kind_named, kind_before, kind_front}

-- a list that has a length isn't empty
pub nonempty : (w : List ℕ) (b : Bool) → b ≡ (length w == 0) → b ≡ false → is_empty_text w ≡ false
nonempty [] b e f = let t : true ≡ false = sym e ∙ f in cc
nonempty (x ∷ w) b e f = refl

-- where letters stand, they decide
pub kind_front_is : (s w r a : List ℕ) (k : Option ArgumentKind) → w ≡ class_front Letter s → is_empty_text w ≡ false
    → r ≡ behind_run Letter s → a ≡ after_white r → k ≡ kind_named w → kind_before s k a ≡ kind_front s
kind_front_is s w r a k e1 e2 e3 e4 e5 = sym
    (ap
    (λ (b : Bool). if b then Err (missing_front_fault ExpectedType s)
    else kind_before s (kind_named (class_front Letter s)) (after_white (behind_run Letter s)))
    (ap is_empty_text (sym e1) ∙ e2)
    ∙ (ap (λ (v : List ℕ). kind_before s (kind_named v) (after_white (behind_run Letter s))) (sym e1)
    ∙ (ap (λ (j : Option ArgumentKind). kind_before s j (after_white (behind_run Letter s))) (sym e5)
    ∙ ap (λ (t : List ℕ). kind_before s k t) (sym (e4 ∙ ap after_white e3)))))
