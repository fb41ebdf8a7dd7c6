-- The digits of a difference, and the number that they write.
use Rattle.std.proofs.Common.{◌≡◌, ◌↔◌, ℕ, zero, suc, ◌+◌, ◌-◌, ◌*◌, ◌^◌, ◌<◌, ◌≤◌, pos, ◌-ℤ◌, Bool, true, false, List, [], ◌∷◌}
use Rattle.std.proofs.Common.{◌++◌, length, take, replicate, get_or, refl, sym, ap, subst, ◌∙◌, arith, length-append}
use Rattle.std.proofs.Common.{append_assoc, Result, Ok, Err}
use Rattle.std.specs.Bool.{IsTrue}
use Rattle.std.specs.Prelude.{IfOk}
use Rattle.std.proofs.lemmas.Int.{ints}
use Rattle.std.proofs.lemmas.List.{length-replicate, length-drop, length-take-le, take-append-drop, append-nil}
use Rattle.fixed_decimal.specs.Digits.{value_of, AreDigits}
use Rattle.fixed_decimal.specs.Places.{Places}
use Rattle.fixed_decimal.specs.declared.decimal.Decimal.{Decimal}
use Rattle.fixed_decimal.specs.declared.sign.Sign.{Sign}
use Rattle.fixed_decimal.specs.declared.sign.Sign.TheVariants as sign
use Rattle.message_format.specs.FormatOffsets.{units, signed, IsSignOf, IsDifference}
use Rattle.message_format.specs.Inner.FormatColumns.{IsBorrowed, IsSum, sign_when, most_fraction, IsDistance, decimal_of_digits}
use Rattle.message_format.proofs.Columns.{digits_take, digits_drop, value_below, value_behind_zeros}

-- digits between zeros, up to a count of columns
abbrev pub placed : ℕ → ℕ → Places → List ℕ
placed columns before p =
    (replicate before 0 ++ (p.whole ++ p.fraction)) ++ replicate (columns - length (replicate before 0 ++ (p.whole ++ p.fraction))) 0

behind_length : (before : ℕ) (p : Places)
    → length (replicate before 0 ++ (p.whole ++ p.fraction)) ≡ before + (length p.whole + length p.fraction)
behind_length before p =
    length-append (replicate before 0) (p.whole ++ p.fraction)
    ∙ (ap (λ (n : ℕ). n + length (p.whole ++ p.fraction)) (length-replicate {A = ℕ} before 0)
    ∙ ap (λ (n : ℕ). before + n) (length-append p.whole p.fraction))

-- they write the number in units of the last column
placed_value : (columns before places : ℕ) (p : Places)
    → columns - length (replicate {A = ℕ} before 0 ++ (p.whole ++ p.fraction)) ≡ places - length p.fraction
    → value_of (placed columns before p) ≡ units places p
placed_value columns before places p e =
    ap (λ (n : ℕ). value_of ((replicate before 0 ++ (p.whole ++ p.fraction)) ++ replicate n 0)) e
    ∙ (ap value_of (append_assoc (replicate before 0) (p.whole ++ p.fraction) (replicate (places - length p.fraction) 0))
    ∙ value_behind_zeros before ((p.whole ++ p.fraction) ++ replicate (places - length p.fraction) 0))

placed_length : (columns before : ℕ) (p : Places) → length (replicate {A = ℕ} before 0 ++ (p.whole ++ p.fraction)) ≤ columns
    → length (placed columns before p) ≡ columns
placed_length columns before p h =
    let e : length (placed columns before p)
    ≡ length (replicate {A = ℕ} before 0 ++ (p.whole ++ p.fraction))
    + length (replicate {A = ℕ} (columns - length (replicate {A = ℕ} before 0 ++ (p.whole ++ p.fraction))) 0)
    = length-append (replicate {A = ℕ} before 0 ++ (p.whole ++ p.fraction))
    (replicate {A = ℕ} (columns - length (replicate {A = ℕ} before 0 ++ (p.whole ++ p.fraction))) 0) in
    let z : length (replicate {A = ℕ} (columns - length (replicate {A = ℕ} before 0 ++ (p.whole ++ p.fraction))) 0)
    ≡ columns - length (replicate {A = ℕ} before 0 ++ (p.whole ++ p.fraction))
    = length-replicate {A = ℕ} (columns - length (replicate {A = ℕ} before 0 ++ (p.whole ++ p.fraction))) 0 in
    omega arith

-- ---- the three cases

-- of a number below 0, or -0
pub of_sum : (x : Decimal) (o : Places) (s t ds : List ℕ) → x.sign ≡ sign.Negative → IsSum s t ds
    → value_of s ≡ units (most_fraction x o) x.absolute
    → value_of t ≡ units (most_fraction x o) o → most_fraction x o ≤ length s → IsDistance x o true ds
of_sum x o s t ds e h u v l =
    let sum : value_of ds ≡ value_of s + value_of t = h.value in
    let n : length ds ≡ length s + 1 = h.places in
    record {
      value = rw e (omega (arith, ints));
      digits = h.digits;
      places = omega arith;
    }

not_negative : (s : Sign) (n : ℕ) → (s ≡ sign.Negative → ⊥) → signed s n ≡ pos n
not_negative sign.None n h = refl
not_negative sign.Negative n h = absurd (h refl)
not_negative sign.Positive n h = refl

-- of a number that isn't below the offset
pub of_rest : (x : Decimal) (o : Places) (s t ds : List ℕ) (c : ℕ) → (x.sign ≡ sign.Negative → ⊥) → IsBorrowed s t ds c → c ≡ 0
    → value_of s ≡ units (most_fraction x o) x.absolute → value_of t ≡ units (most_fraction x o) o → most_fraction x o + 1 ≤ length s
    → IsDistance x o false ds
of_rest x o s t ds c e h z u v l =
    let same : value_of ds + value_of t ≡ value_of s + c * 10 ^ length ds = h.value in
    let nothing : c * 10 ^ length ds ≡ 0 = ap (λ (n : ℕ). n * 10 ^ length ds) z ∙ omega arith in
    let n : length ds ≡ length s = h.upper in
    record {
      value = rw (not_negative x.sign (units (most_fraction x o) x.absolute) e) (omega (arith, ints));
      digits = h.digits;
      places = omega arith;
    }

-- a borrowed 1 is the power of ten
one_borrowed : (c p : ℕ) → c ≤ 1 → (c ≡ 0 → ⊥) → c * p ≡ p
one_borrowed zero p l h = absurd (h refl)
one_borrowed (suc zero) p l h = omega arith
one_borrowed (suc (suc c)) p l h = absurd (omega arith)

is_none : (c : ℕ) → ((c ≡ 0 → ⊥) → ⊥) → c ≡ 0
is_none zero h = refl
is_none (suc c) h = absurd (h (λ e. omega arith))

-- of a number below the offset
pub of_turned : (x : Decimal) (o : Places) (s t first ds : List ℕ) (b c : ℕ) → (x.sign ≡ sign.Negative → ⊥) → IsBorrowed s t first b
    → (b ≡ 0 → ⊥)
    → IsBorrowed t s ds c → value_of s ≡ units (most_fraction x o) x.absolute → value_of t ≡ units (most_fraction x o) o
    → most_fraction x o + 1 ≤ length s
    → IsDistance x o true ds
of_turned x o s t first ds b c e h some k u v l =
    let one : b * 10 ^ length first ≡ 10 ^ length first = one_borrowed b (10 ^ length first) h.most some in
    let same : value_of first + value_of t ≡ value_of s + b * 10 ^ length first = h.value in
    let few : value_of first < 10 ^ length first = value_below first h.digits in
    let less : value_of s < value_of t = omega arith in
    let turned : value_of ds + value_of s ≡ value_of t + c * 10 ^ length ds = k.value in
    let few' : value_of ds < 10 ^ length ds = value_below ds k.digits in
    let none : c ≡ 0 =
    is_none c (λ more. let one' : c * 10 ^ length ds ≡ 10 ^ length ds = one_borrowed c (10 ^ length ds) k.most more in omega arith) in
    let nothing : c * 10 ^ length ds ≡ 0 = ap (λ (n : ℕ). n * 10 ^ length ds) none ∙ omega arith in
    let n : length ds ≡ length s = k.lower in
    record {
      value = rw (not_negative x.sign (units (most_fraction x o) x.absolute) e) (omega (arith, ints));
      digits = k.digits;
      places = omega arith;
    }

-- ---- in columns

-- the columns of a number and an offset
pub record AreColumns (x : Decimal) (o : Places) (most places columns before other : ℕ) : Type 0 where
  pub whole : length x.absolute.whole ≤ most
  pub other_whole : length o.whole ≤ most
  pub some : 0 < length x.absolute.whole
  pub most_places : places ≡ most_fraction x o
  pub all_columns : columns ≡ most + places
  pub zeros : before ≡ most - length x.absolute.whole
  pub other_zeros : other ≡ most - length o.whole

module _ (x : Decimal) (o : Places) (most f columns before other : ℕ) (h : AreColumns x o most f columns before other) where
  first_length : length (replicate {A = ℕ} before 0 ++ (x.absolute.whole ++ x.absolute.fraction)) ≡ most + length x.absolute.fraction
  first_length = let a = h.whole in let b = h.zeros in behind_length before x.absolute ∙ omega arith

  other_length : length (replicate {A = ℕ} other 0 ++ (o.whole ++ o.fraction)) ≡ most + length o.fraction
  other_length = let a = h.other_whole in let b = h.other_zeros in behind_length other o ∙ omega arith

  first_value : value_of (placed columns before x.absolute) ≡ units (most_fraction x o) x.absolute
  first_value = let a = first_length in let b = h.most_places in let d =
      h.all_columns in placed_value columns before (most_fraction x o) x.absolute (omega arith)

  other_value : value_of (placed columns other o) ≡ units (most_fraction x o) o
  other_value = let a = other_length in let b = h.most_places in let d =
      h.all_columns in placed_value columns other (most_fraction x o) o (omega arith)

  all_columns : most_fraction x o + 1 ≤ length (placed columns before x.absolute)
  all_columns =
      let a = first_length in
      let b = h.most_places in
      let d = h.all_columns in
      let e = h.some in
      let w = h.whole in
      let l : length (placed columns before x.absolute) ≡ columns = placed_length columns before x.absolute (omega arith) in
      omega arith

  pub sum_distance : (ds : List ℕ) → x.sign ≡ sign.Negative → IsSum (placed columns before x.absolute) (placed columns other o) ds
      → IsDistance x o true ds
  sum_distance ds e k =
      let l = all_columns in
      of_sum x o (placed columns before x.absolute) (placed columns other o) ds e k first_value other_value (omega arith)

  pub rest_distance : (ds : List ℕ) (c : ℕ) → (x.sign ≡ sign.Negative → ⊥) → c ≡ 0
      → IsBorrowed (placed columns before x.absolute) (placed columns other o) ds c
      → IsDistance x o false ds
  rest_distance ds c e z k =
      of_rest x o (placed columns before x.absolute) (placed columns other o) ds c e k z first_value other_value all_columns

  pub turned_distance : (first ds : List ℕ) (b c : ℕ) → (x.sign ≡ sign.Negative → ⊥) → (b ≡ 0 → ⊥)
      → IsBorrowed (placed columns before x.absolute) (placed columns other o) first b
      → IsBorrowed (placed columns other o) (placed columns before x.absolute) ds c → IsDistance x o true ds
  turned_distance first ds b c e z k l =
      of_turned x o (placed columns before x.absolute) (placed columns other o) first ds b c e k z l first_value other_value all_columns

-- ---- the number

-- the number in units of its own last place
pub own_units : (places : ℕ) (x : Places) → length x.fraction ≡ places → units places x ≡ value_of (x.whole ++ x.fraction)
own_units places x e =
    let z : places - length x.fraction ≡ 0 = omega arith in
    ap (λ (n : ℕ). value_of (x.whole ++ x.fraction ++ replicate n 0)) z ∙ ap value_of (append-nil (x.whole ++ x.fraction))

-- a single digit before the fraction
one_whole : (ds : List ℕ) (n : ℕ) → length ds ≡ suc n → get_or (take (length ds - n) ds) 0 0 ≡ 0 → take (length ds - n) ds ≡ 0 ∷ []
one_whole ds n e z =
    let k : length ds - n ≡ 1 = omega arith in
    let z' : get_or (take 1 ds) 0 0 ≡ 0 = subst (λ (m : ℕ). get_or (take m ds) 0 0 ≡ 0) k z in
    ap (λ (m : ℕ). take m ds) k ∙ first ds (omega arith) z'
  where
    first : (s : List ℕ) → 0 < length s → get_or (take 1 s) 0 0 ≡ 0 → take 1 s ≡ 0 ∷ []
    first [] l z = absurd (omega arith)
    first (d ∷ s) l z = let e : d ≡ 0 = z in ap (λ (m : ℕ). m ∷ []) e

first_kept : (m : ℕ) (ds : List ℕ) → 0 < m → get_or (take m ds) 0 0 ≡ get_or ds 0 0
first_kept zero ds h = absurd (omega arith)
first_kept (suc m) [] h = refl
first_kept (suc m) (d ∷ ds) h = refl

-- the sign is that of the digits
signed_so : (below negative : Bool) (n m : ℕ) → n ≡ m → IsTrue negative ↔ (IsTrue below × (0 < m))
    → (signed (sign_when negative) n ≡ signed (sign_when below) m) × IsSignOf (sign_when negative) n
signed_so false false n m e h = (ap pos e, tt)
signed_so false true n m e h = let b : false ≡ true = (h.0 refl).0 in cc
signed_so true true n m e h = let l : 0 < m = (h.0 refl).1 in (ap (λ (k : ℕ). signed sign.Negative k) e, omega arith)
signed_so true false n m e h = (zero_so n m e (λ l. let b : false ≡ true = h.1 (refl, l) in cc), tt)
  where
    zero_so : (n m : ℕ) → n ≡ m → (0 < m → ⊥) → pos n ≡ signed sign.Negative m
    zero_so n m e h = let z : m ≡ 0 = none m h in omega (arith, ints)
      where
        none : (m : ℕ) → (0 < m → ⊥) → m ≡ 0
        none zero h = refl
        none (suc m) h = absurd (h (omega arith))

-- the digits without needless zeros are those of the difference
pub is_difference : (x : Decimal) (o : Places) (below negative : Bool) (ds short : List ℕ) → IsDistance x o below ds
    → value_of short ≡ value_of ds → AreDigits short
    → most_fraction x o + 1 ≤ length short → (get_or short 0 0 ≡ 0 → length short ≡ most_fraction x o + 1)
    → IsTrue negative ↔ (IsTrue below × (0 < value_of short))
    → IsDifference x o (decimal_of_digits negative (most_fraction x o) short)
is_difference x o below negative ds short h same digits least shortest is =
    let f = most_fraction x o in
    let d = decimal_of_digits negative f short in
    let places : length d.absolute.fraction ≡ f = length-drop (length short - f) short ∙ omega arith in
    let whole : length d.absolute.whole ≡ length short - f = length-take-le (length short - f) short (omega arith) in
    let all : units (length d.absolute.fraction) d.absolute ≡ value_of short
    = own_units (length d.absolute.fraction) d.absolute refl ∙ ap value_of (take-append-drop (length short - f) short) in
    let so = signed_so below negative (units (length d.absolute.fraction) d.absolute) (value_of short) all is in
    record {
      written =
          record {
            nonempty = omega arith;
            whole = digits_take (length short - f) short digits;
            fraction =
                digits_drop (length short - f) short digits;
          };
      places = places;
      value =
          so.0
          ∙ (ap (λ (n : ℕ). signed (sign_when below) n) same
          ∙ subst (λ (n : ℕ). signed (sign_when below) (value_of ds) ≡ signed x.sign (units n x.absolute) -ℤ pos (units n o)) (sym places)
          h.value);
      sign = so.1;
      shortest = λ z.
          one_whole short f (shortest (sym (first_kept (length short - f) short (omega arith)) ∙ z) ∙ omega arith) z;
    }

-- with the count of fraction digits as it was computed
pub is_difference_at : (x : Decimal) (o : Places) (below negative : Bool) (ds short : List ℕ) (f : ℕ) → f ≡ most_fraction x o
    → IsDistance x o below ds
    → value_of short ≡ value_of ds → AreDigits short → f + 1 ≤ length short → (get_or short 0 0 ≡ 0 → length short ≡ f + 1)
    → IsTrue negative ↔ (IsTrue below × (0 < value_of short)) → IsDifference x o (decimal_of_digits negative f short)
is_difference_at x o below negative ds short f e h same digits least shortest is =
    subst (λ (n : ℕ). IsDifference x o (decimal_of_digits negative n short)) (sym e)
    (is_difference x o below negative ds short h same digits (subst (λ (n : ℕ). n + 1 ≤ length short) e least)
    (λ z. shortest z ∙ ap (λ (n : ℕ). n + 1) e) is)

-- where a result is one, so it is what follows
pub if_ok : {A E : Type 0} (r : Result A E) (P Q : A → Type 0) → ((x : A) → P x → Q x) → IfOk r P → IfOk r Q
if_ok (Ok x) P Q f h = f x h
if_ok (Err e) P Q f h = tt
