-- Categories by their numbers, and the values by category.
use Rattle.std.proofs.Common.{◌≡◌, ℕ, zero, suc, ◌==◌, ◌≢◌, ◌⊎◌, Bool, true, false, if◌then◌else◌, refl, sym, ap, inl, inr, ◌∙◌, ◌<◌}
use Rattle.std.proofs.Common.{arith, lit<}
use Rattle.std.proofs.lemmas.Bool.{eqb-true, ne_eqb}
use Rattle.plural_base.specs.declared.category.by_category.ByCategory.{ByCategory}
use Rattle.plural_base.specs.declared.category.raw.RawPluralCategory.{RawPluralCategory}
use Rattle.plural_base.specs.declared.category.raw.RawPluralCategory.TheVariants.{Other, Zero, One, Two, Few, Many}
use Rattle.plural_base.specs.Ranges.{each, at, put_at, range_byte}
use Rattle.plural_base.specs.Categories.{raw_number}

-- what holds of each of the six holds of all
pub by_category : (P : RawPluralCategory → Type 0) → P Other → P Zero → P One → P Two → P Few → P Many → (c : RawPluralCategory) → P c
by_category P p q r s t u Other = p
by_category P p q r s t u Zero = q
by_category P p q r s t u One = r
by_category P p q r s t u Two = s
by_category P p q r s t u Few = t
by_category P p q r s t u Many = u

-- the category of a number
abbrev pub numbered : ℕ → RawPluralCategory
numbered zero = Other
numbered (suc zero) = Zero
numbered (suc (suc zero)) = One
numbered (suc (suc (suc zero))) = Two
numbered (suc (suc (suc (suc zero)))) = Few
numbered _ = Many

-- the number of a category gives it back
numbered_back : (c : RawPluralCategory) → numbered (raw_number c) ≡ c
numbered_back = by_category (λ c. numbered (raw_number c) ≡ c) refl refl refl refl refl refl

-- no two have one number
pub same_number : (c d : RawPluralCategory) → raw_number c ≡ raw_number d → c ≡ d
same_number c d same = sym (numbered_back c) ∙ ap numbered same ∙ numbered_back d

-- numbers of categories are below 6
number_below : (c : RawPluralCategory) → raw_number c < 6
number_below = by_category (λ c. raw_number c < 6) (lit< tt) (lit< tt) (lit< tt) (lit< tt) (lit< tt) (lit< tt)

-- nor have two ranges one byte
pub same_byte : (start end start' end' : RawPluralCategory) → range_byte start end ≡ range_byte start' end'
    → (start ≡ start') × (end ≡ end')
same_byte start end start' end' same = (
  same_number start start' (omega (arith, number_below end, number_below end')),
  same_number end end' (omega (arith, number_below end, number_below end')),
)

-- ---- Values by category

-- things that are the same at each category are the same
pub same_things : {A : Type 0} (x y : ByCategory A) → ((c : RawPluralCategory) → at x c ≡ at y c) → x ≡ y
same_things x y same =
    λ i. record { other = same Other i; zero = same Zero i; one = same One i; two = same Two i; few = same Few i; many = same Many i }

-- the value of a category is what the function gives for it
pub at-each : {A : Type 0} (f : RawPluralCategory → A) (c : RawPluralCategory) → at (each f) c ≡ f c
at-each f = by_category (λ c. at (each f) c ≡ f c) refl refl refl refl refl refl

module _ {A : Type 0} (things : ByCategory A) (c : RawPluralCategory) (thing : A) (d : RawPluralCategory) where
  -- the value of a category is the new one, if the category is the changed one, else the old one
  pub at-put_at : at (put_at things c thing) d ≡ if raw_number d == raw_number c then thing else at things d
  at-put_at = at-each (λ d. if raw_number d == raw_number c then thing else at things d) d

  -- another category keeps what it has
  pub at-put_at_other : d ≢ c → at (put_at things c thing) d ≡ at things d
  at-put_at_other other = at-put_at ∙ (rw (ne_eqb (raw_number d) (raw_number c) (λ same. other (same_number d c same))) refl)

-- the value of another pair stays
module _ {A : Type 0} (rows : ByCategory (ByCategory A)) (start end : RawPluralCategory) (thing : A) (s e : RawPluralCategory) where
  -- in the row of the pair another end keeps what it has
  in_row : e ≢ end → (b : Bool) → (raw_number s == raw_number start) ≡ b
      → at (if b then put_at (at rows start) end thing else at rows s) e ≡ at (at rows s) e
  in_row other true same =
      at-put_at_other (at rows start) end thing e other ∙ ap (λ r. at (at rows r) e) (sym (same_number s start (eqb-true _ _ same)))
  in_row other false same = refl

  -- another pair keeps what it has
  pub others_stay : (s ≢ start) ⊎ (e ≢ end) → at (at (put_at rows start (put_at (at rows start) end thing)) s) e ≡ at (at rows s) e
  others_stay (inl other) = ap (λ row. at row e) (at-put_at_other rows start (put_at (at rows start) end thing) s other)
  others_stay (inr other) =
      ap (λ row. at row e) (at-put_at rows start (put_at (at rows start) end thing) s)
      ∙ in_row other (raw_number s == raw_number start) refl
