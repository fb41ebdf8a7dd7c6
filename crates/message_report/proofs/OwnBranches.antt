-- Whether exactly a number has a branch of its own, of what `message_format` returns.
use Rattle.std.proofs.Common.{◌≡◌, ◌↔◌, ℕ, ◌<◌, Bool, true, false, List, [], ◌∷◌, codes, refl, sym, subst, arith, inl, inr}
use Rattle.std.specs.Prelude.{◌||◌, not, IsTrue, Result, Ok, Err, IfOk}
use Rattle.fixed_decimal.specs.Digits.{text_of}
use Rattle.fixed_decimal.specs.Written.{CompactNumber, WritesCompact}
use Rattle.fixed_decimal.specs.declared.sign.Sign.TheVariants as sign
use Rattle.message_format.specs.FormatBranches.{Equals, HasBranchOfValue}
use Rattle.message_pattern.specs.PatternParts.{Branching, Selector, Exactly, Keyword}
use Rattle.message_report.specs.Inner.BranchKinds.{has_number_branch, is_number_selector}
use Rattle.message_report.specs.PatternBranches.{IsOwn}

-- behind an offset none has
pub none_own : (text : List ℕ) (offset : Bool) (bs : List Branching) → offset ≡ true → IsOwn text offset bs false
none_own text offset bs is = subst (λ (o : Bool). IsOwn text o bs false) (sym is) refl

-- without a branch of a number none has
pub not_so : (b : Bool) → not b ≡ true → b ≡ false
not_so true e = cc
not_so false e = refl

head_not : (x : CompactNumber) (s : Selector) (rest : Bool) → (is_number_selector s || rest) ≡ false → (Equals x s → ⊥) × (rest ≡ false)
head_not x (Exactly number) rest none = cc
head_not x (Keyword word) rest none = ((λ is. is), none)

no_number : (x : CompactNumber) (bs : List Branching) → has_number_branch bs ≡ false → HasBranchOfValue x bs → ⊥
no_number x [] none (parts, is) = cc
no_number x (b ∷ bs) none (parts, inl this) = (head_not x b.selector (has_number_branch bs) none).0 this.0
no_number x (b ∷ bs) none (parts, inr other) = no_number x bs (head_not x b.selector (has_number_branch bs) none).1 (parts, other.1)

none_without : (x : CompactNumber) (bs : List Branching) → has_number_branch bs ≡ false → IsTrue false ↔ HasBranchOfValue x bs
none_without x bs none = ((λ yes. absurd (differ yes)), (λ has. absurd (no_number x bs none has)))
  where
    differ : false ≡ true → ⊥
    differ e = cc

pub none_of_number : (text : List ℕ) (offset : Bool) (bs : List Branching) (x : CompactNumber) → WritesCompact text x → offset ≡ false
    → has_number_branch bs ≡ false → IsOwn text offset bs false
none_of_number text offset bs x writes is none =
    subst (λ (o : Bool). IsOwn text o bs false) (sym is) (x, writes, none_without x bs none)

-- ---- The texts 0 and 1

digit : ℕ → CompactNumber
digit d = record { significand = record { sign = sign.None; absolute = record { whole = d ∷ []; fraction = [] } }; exponent = 0 }

digit_written : (d : ℕ) → d < 10 → WritesCompact (text_of (d ∷ [])) (digit d)
unfolding digit
digit_written d less = (
  text_of (d ∷ []),
  [],
  (
    text_of (d ∷ []),
    record { digits = record { nonempty = omega arith; whole = (less, tt); fraction = tt }; form = inl (refl, refl) },
    refl,
  ),
  inl (refl, refl),
  refl,
)

pub zero_written : (x : CompactNumber) × WritesCompact (codes "0") x
zero_written = (digit 0, digit_written 0 (omega arith))

pub one_written : (x : CompactNumber) × WritesCompact (codes "1") x
one_written = (digit 1, digit_written 1 (omega arith))

-- ---- By the number's value

-- else the value tells
own_of : {E : Type 0} (text : List ℕ) (bs : List Branching) (x : CompactNumber) (r : Result Bool E) → WritesCompact text x
    → IfOk r (λ has. IsTrue has ↔ HasBranchOfValue x bs) → IfOk r (λ own. IsOwn text false bs own)
own_of {E} text bs x (Ok has) writes is = (x, writes, is)
own_of {E} text bs x (Err e) writes is = tt

pub value_own : {E : Type 0} (text : List ℕ) (offset : Bool) (bs : List Branching) (x : CompactNumber) (r : Result Bool E) → offset ≡ false
    → WritesCompact text x → IfOk r (λ has. IsTrue has ↔ HasBranchOfValue x bs) → IfOk r (λ own. IsOwn text offset bs own)
value_own {E} text offset bs x r is writes has =
    subst (λ (o : Bool). IfOk r (λ own. IsOwn text o bs own)) (sym is) (own_of text bs x r writes has)
