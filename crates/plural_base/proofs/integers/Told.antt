-- What is told of classes by masks.
use Rattle.std.proofs.Common.{◌≡◌, ℕ, ◌^◌, ◌-◌, ◌<◌, Bool, true, false, refl, sym, ◌∙◌, ap, subst, bit_and, bit_or}
use Rattle.std.specs.Prelude.{◌&&◌, ◌||◌, not, if◌then◌else◌}
use Rattle.std.specs.Int.{w128, bit_not}
use Rattle.std.proofs.lemmas.Bool.{lt-ltb}
use Rattle.plural_base.specs.declared.rules.told_masks.Told.{Told}
use Rattle.plural_base.specs.Inner.Masks.{has_bit, IsToldAt}
use Rattle.plural_base.specs.Inner.WholeNumbers.{IsToldIf}
use Rattle.plural_base.proofs.integers.Bits.{has-and, has-or, has-not, has-none, has-ones}

-- ---- Truths

pub not_not : (b : Bool) → b ≡ not (not b)
not_not true = refl
not_not false = refl

neither : (b c : Bool) → (not b && not c) ≡ not (b || c)
neither true c = refl
neither false c = refl

not_both_true : (b c : Bool) → (not b || not c) ≡ not (b && c)
not_both_true true c = refl
not_both_true false c = refl

either_order : (b c d e : Bool) → (b ≡ true → c ≡ true) → (d ≡ true → e ≡ true) → (b || d) ≡ true → (c || e) ≡ true
either_order true c d e f g h = ap (λ t. t || e) (f refl)
either_order false true d e f g h = refl
either_order false false d e f g h = g h

both_order : (b c d e : Bool) → (b ≡ true → c ≡ true) → (d ≡ true → e ≡ true) → (b && d) ≡ true → (c && e) ≡ true
both_order true c d e f g h = ap (λ t. t && e) (f refl) ∙ g h
both_order false c d e f g h = absurd (cc h)

not_order : (b c : Bool) → (b ≡ true → c ≡ true) → not c ≡ true → not b ≡ true
not_order b true f h = absurd (cc h)
not_order true false f h = absurd (cc (f refl))
not_order false false f h = refl

-- ---- Of two

pub told_either : (k : ℕ) (b c d e : Bool) (first second : Told) → IsToldAt k b c first → IsToldAt k d e second
    → IsToldAt k (b || d) (c || e) (record { yes = bit_or first.yes second.yes; no = bit_and first.no second.no })
told_either k b c d e first second f g = record {
  yes = has-or first.yes second.yes k ∙ ap (λ x. x || has_bit second.yes k) f.yes ∙ ap (λ x. b || x) g.yes;
  no = has-and first.no second.no k ∙ ap (λ x. x && has_bit second.no k) f.no ∙ ap (λ x. not c && x) g.no ∙ neither c e;
  order = either_order b c d e f.order g.order;
}

pub told_both : (k : ℕ) (b c d e : Bool) (first second : Told) → IsToldAt k b c first → IsToldAt k d e second
    → IsToldAt k (b && d) (c && e) (record { yes = bit_and first.yes second.yes; no = bit_or first.no second.no })
told_both k b c d e first second f g = record {
  yes = has-and first.yes second.yes k ∙ ap (λ x. x && has_bit second.yes k) f.yes ∙ ap (λ x. b && x) g.yes;
  no = has-or first.no second.no k ∙ ap (λ x. x || has_bit second.no k) f.no ∙ ap (λ x. not c || x) g.no ∙ not_both_true c e;
  order = both_order b c d e f.order g.order;
}

-- what is told to be false stays so with anything else
pub told_false_with : (k : ℕ) (b c d e : Bool) (told : Told) → has_bit told.no k ≡ true → IsToldAt k b c told
    → IsToldAt k (b && d) (c && e) told
told_false_with k b true d e told is f = absurd (cc (is, f.no))
told_false_with k true false d e told is f = absurd (cc (f.order refl))
told_false_with k false false d e told is f = f

-- ---- Of one

pub told_not : (k : ℕ) (b c : Bool) (told : Told) → IsToldAt k b c told
    → IsToldAt k (not c) (not b) (record { yes = told.no; no = told.yes })
told_not k b c told f = record { yes = f.no; no = f.yes ∙ not_not b; order = not_order b c f.order }

-- a truth that may be told is turned
pub turned_if : (k : ℕ) (is_told b : Bool) (told : Told)
    → IsToldAt k (not (if is_told then b else true)) (not (if is_told then b else false)) told → IsToldIf k is_told (not b) told
turned_if k true b told f = f
turned_if k false b told f = f

pub told_by_mask : (k classes : ℕ) → classes < 2 ^ 128 → k < 128
    → IsToldAt k (has_bit classes k) (has_bit classes k) (record { yes = classes; no = bit_not w128 classes })
told_by_mask k classes fits within = record { yes = refl; no = has-not classes k fits within; order = λ h. h }

pub told_true : (k : ℕ) (truth : Bool) → truth ≡ true → k < 128
    → IsToldAt k truth truth (record { yes = 2 ^ 128 - 1; no = 0 })
told_true k truth is within =
    let P : Bool → Type 0 = λ b. IsToldAt k b b (record { yes = 2 ^ 128 - 1; no = 0 }) in
    subst P (sym is) (record { yes = has-ones 128 k ∙ lt-ltb k 128 within; no = has-none k; order = λ h. h })

pub told_untrue : (k : ℕ) (truth : Bool) → truth ≡ false → k < 128
    → IsToldAt k truth truth (record { yes = 0; no = 2 ^ 128 - 1 })
told_untrue k truth is within =
    let P : Bool → Type 0 = λ b. IsToldAt k b b (record { yes = 0; no = 2 ^ 128 - 1 }) in
    subst P (sym is) (record { yes = has-none k; no = has-ones 128 k ∙ lt-ltb k 128 within; order = λ h. h })

pub told_nothing : (k : ℕ) → IsToldAt k false true (record { yes = 0; no = 0 })
told_nothing k = record { yes = has-none k; no = has-none k; order = λ h. refl }

pub told_false_of : (k classes : ℕ) → IsToldAt k false (not (has_bit classes k)) (record { yes = 0; no = classes })
told_false_of k classes = record { yes = has-none k; no = not_not (has_bit classes k); order = λ h. absurd (cc h) }

pub told_if_as : (k : ℕ) (is_told also_told truth same_truth : Bool) (told : Told) → is_told ≡ also_told → truth ≡ same_truth
    → IsToldIf k is_told truth told → IsToldIf k also_told same_truth told
told_if_as k is_told also_told truth same_truth told same is f =
    let P : Bool → Type 0 = λ x. IsToldIf k x truth told in
    let Q : Bool → Type 0 = λ x. IsToldIf k also_told x told in
    subst Q is (subst P same f)

-- the same by other words for the two truths
pub told_as : (k : ℕ) (b c d e : Bool) (told : Told) → b ≡ d → c ≡ e → IsToldAt k b c told → IsToldAt k d e told
told_as k b c d e told same also f =
    let P : Bool → Type 0 = λ x. IsToldAt k x c told in
    let Q : Bool → Type 0 = λ x. IsToldAt k d x told in
    subst Q also (subst P same f)
