-- Locales that are the same are inside of the same ones.
use Rattle.std.proofs.Common.{◌≡◌, ℕ, ◌<◌, List, [], ◌∷◌, Bool, true, false, length, take, take_all, map, nat_eq, refl, sym, ap, ◌∙◌, arith}
use Rattle.std.specs.Prelude.{bytes_eq, codes}
use Rattle.std.specs.Cmp.Derive.Mapped.{pointwise-map}
use Rattle.std.proofs.lemmas.List.{length-map}
use Rattle.std.proofs.lemmas.Slice.Eq.{bytes_eq-Decides}
use Rattle.plural_fallback.specs.LocaleNames.{folded, is_same}
use Rattle.rules_outline.specs.Inner.RulesOutline.{is_among, is_inside, steps_view}
use Rattle.rules_outline.specs.declared.outline.KeptLocales.{KeptLocales}
use Rattle.rules_outline.specs.declared.outline.KeptLocales.TheVariants.{All, Fronts, These}

-- a locale in lower case, and `_` as `-`
abbrev pub folds : List ℕ → List ℕ
folds = map folded

pub same_is : (one other : List ℕ) → is_same one other ≡ bytes_eq (folds one) (folds other)
same_is one other = sym (pointwise-map folded nat_eq one other)

pub same_folds : (one other : List ℕ) → is_same one other ≡ true → folds one ≡ folds other
same_folds one other same = (bytes_eq-Decides (folds one) (folds other)).0 (sym (same_is one other) ∙ same)

-- ---- Locales inside of others

same_as : (one other third : List ℕ) → folds one ≡ folds other → is_same one third ≡ is_same other third
same_as one other third same = same_is one third ∙ ap (λ f. bytes_eq f (folds third)) same ∙ sym (same_is other third)

not_longer : (n m : ℕ) → m < n → n ≡ m → ⊥
not_longer n m longer same = omega arith

-- as long
same_length : (one other : List ℕ) → folds one ≡ folds other → length one ≡ length other
same_length one other same = sym (length-map one folded) ∙ ap length same ∙ length-map other folded

-- locales of other lengths differ
pub other_length : (one other : List ℕ) → (length one ≡ length other → ⊥) → is_same one other ≡ false
other_length one other differs = by (is_same one other) refl
  where
    by : (same : Bool) → is_same one other ≡ same → same ≡ false
    by true same = absurd (differs (same_length one other (same_folds one other same)))
    by false same = refl

-- so does one that is longer than the other is
pub longer_differs : (locale longest : List ℕ) → length longest < length locale → is_same locale (take (length locale) longest) ≡ false
longer_differs locale longest longer =
    rw (take_all (length locale) longest (omega (arith, longer)))
    (other_length locale longest (λ same. not_longer (length locale) (length longest) longer same))

among_same : (one other : List ℕ) → folds one ≡ folds other → (steps : List (List ℕ)) → is_among one steps ≡ is_among other steps
among_same one other same [] = refl
among_same one other same (step ∷ steps) = rw (same_as one other step same, among_same one other same steps) refl

-- of two locales that are the same both are inside, or none
pub inside_same : (locales : KeptLocales) (one other : List ℕ) → is_same one other ≡ true → is_inside locales one ≡ is_inside locales other
inside_same (Fronts longest) one other same =
    let alike = same_folds one other same in
    rw (same_as one other (take (length one) longest.now) alike, same_length one other alike, same_as one other (codes "root") alike) refl
inside_same (These steps) one other same = among_same one other (same_folds one other same) (steps_view steps.now)
inside_same All one other same = refl
