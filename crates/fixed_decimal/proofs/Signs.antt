-- Decimals' texts by the sign at their front.
use Rattle.std.proofs.Common.{◌≡◌, ◌≢◌, ℕ, zero, suc, ◌<◌, List, ◌++◌, refl, sym, ◌∙◌, ap, subst, length, arith, get_or}
use Rattle.fixed_decimal.specs.Places.{Places, IsOverLimit}
use Rattle.fixed_decimal.specs.Written.{WritesUnsigned, WritesDecimal, sign_text}
use Rattle.fixed_decimal.specs.Inner.TextParts.{HasNoSign}
use Rattle.fixed_decimal.specs.declared.sign.Sign.{Sign}
use Rattle.fixed_decimal.specs.declared.sign.Sign.TheVariants as sign
use Rattle.fixed_decimal.specs.declared.decimal.Decimal.{Decimal}
use Rattle.fixed_decimal.proofs.Texts.{no_sign, no_letter, one_unsigned}

-- the sign and the digits after it are the text's
same_sign : (s r : Sign) (ds es : List ℕ) → HasNoSign ds → HasNoSign es → sign_text s ++ ds ≡ sign_text r ++ es → (s ≡ r) × (ds ≡ es)
same_sign sign.None sign.None ds es h k e = (refl, e)
same_sign sign.None sign.Negative ds es h k e = absurd (h.not_negative (ap (λ xs. get_or xs 0 0) e))
same_sign sign.None sign.Positive ds es h k e = absurd (h.not_positive (ap (λ xs. get_or xs 0 0) e))
same_sign sign.Negative sign.None ds es h k e = absurd (k.not_negative (ap (λ xs. get_or xs 0 0) (sym e)))
same_sign sign.Negative sign.Negative ds es h k e = (refl, cc)
same_sign sign.Negative sign.Positive ds es h k e = absurd (let f : ◌≡◌ {A = ℕ} 45 43 = ap (λ xs. get_or xs 0 0) e in omega arith)
same_sign sign.Positive sign.None ds es h k e = absurd (k.not_positive (ap (λ xs. get_or xs 0 0) (sym e)))
same_sign sign.Positive sign.Negative ds es h k e = absurd (let f : ◌≡◌ {A = ℕ} 43 45 = ap (λ xs. get_or xs 0 0) e in omega arith)
same_sign sign.Positive sign.Positive ds es h k e = (refl, cc)

-- A text writes one signed decimal.
pub one_signed : (t : List ℕ) (x y : Decimal) → WritesDecimal t x → WritesDecimal t y → x ≡ y
one_signed t x y h k =
    let same : (x.sign ≡ y.sign) × (h.0 ≡ k.0)
    = same_sign x.sign y.sign h.0 k.0 (no_sign h.0 x.absolute h.1) (no_sign k.0 y.absolute k.1) (sym h.2 ∙ k.2) in
    let absolute : x.absolute ≡ y.absolute
    = one_unsigned k.0 x.absolute y.absolute (subst (λ (ds : List ℕ). WritesUnsigned ds x.absolute) same.1 h.1) k.1 in
    ap (λ (s : Sign). record x { sign = s }) same.0 ∙ ap (λ (a : Places). record y { absolute = a }) absolute

-- Neither a sign nor an unsigned decimal has a `c` in it.
signed_letter : (s : Sign) (ds : List ℕ) (x : Places) → WritesUnsigned ds x → (k : ℕ) → k < length (sign_text s ++ ds)
    → get_or (sign_text s ++ ds) k 0 ≢ 99
signed_letter sign.None ds x h k inside = no_letter ds x h k inside
signed_letter sign.Negative ds x h zero inside = λ e. (let f : ◌≡◌ {A = ℕ} 45 99 = e in omega arith)
signed_letter sign.Negative ds x h (suc k) inside = no_letter ds x h k (omega arith)
signed_letter sign.Positive ds x h zero inside = λ e. (let f : ◌≡◌ {A = ℕ} 43 99 = e in omega arith)
signed_letter sign.Positive ds x h (suc k) inside = no_letter ds x h k (omega arith)

-- So no decimal's text has one.
pub decimal_letter : (t : List ℕ) (x : Decimal) → WritesDecimal t x → (k : ℕ) → k < length t → get_or t k 0 ≢ 99
decimal_letter t x h k inside letter =
    signed_letter x.sign h.0 x.absolute h.1 k (subst (λ (s : List ℕ). k < length s) h.2 inside)
    (ap (λ s. get_or s k 0) (sym h.2) ∙ letter)

-- ---- what is written after the sign, and what with it

module _ (t : List ℕ) (s : Sign) (digits : List ℕ) (form : t ≡ sign_text s ++ digits) (only : (r : Sign) (ds : List ℕ)
    → HasNoSign ds → t ≡ sign_text r ++ ds → (r ≡ s) × (ds ≡ digits)) where
  -- A number after the sign makes a decimal of the whole text.
  pub signed_from : (x : Places) → WritesUnsigned digits x → (y : Decimal) × WritesDecimal t y × (y.absolute ≡ x)
  signed_from x h = (record { sign = s; absolute = x }, (digits, h, form), refl)

  -- The digits of each decimal that the text writes are those after its sign.
  pub unsigned_from : (y : Decimal) → WritesDecimal t y → WritesUnsigned digits y.absolute
  unsigned_from y h = subst (λ (ds : List ℕ). WritesUnsigned ds y.absolute) (only y.sign h.0 (no_sign h.0 y.absolute h.1) h.2).1 h.1

  -- Without a number after the sign there is no decimal.
  pub none_signed : ((x : Places) → ¬ (WritesUnsigned digits x)) → (y : Decimal) → ¬ (WritesDecimal t y)
  none_signed none y h = none y.absolute (unsigned_from y h)

  -- Without a decimal there is no number after the sign.
  pub none_unsigned : ((y : Decimal) → ¬ (WritesDecimal t y)) → (x : Places) → ¬ (WritesUnsigned digits x)
  none_unsigned none x h = let p : (y : Decimal) × WritesDecimal t y × (y.absolute ≡ x) = signed_from x h in none p.0 p.1

  -- A number over the limit makes a decimal over the limit.
  pub over_signed : ((x : Places) × WritesUnsigned digits x × IsOverLimit x) → (y : Decimal) × WritesDecimal t y × IsOverLimit y.absolute
  over_signed p = (record { sign = s; absolute = p.0 }, (digits, p.1, form), p.2)

  -- A decimal over the limit has a number over the limit after its sign.
  pub over_unsigned : ((y : Decimal) × WritesDecimal t y × IsOverLimit y.absolute)
      → (x : Places) × WritesUnsigned digits x × IsOverLimit x
  over_unsigned p = (p.0.absolute, unsigned_from p.0 p.1, p.2)
