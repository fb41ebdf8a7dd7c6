-- How many steps a chain has, from a locale and from one on its way.
use Rattle.std.proofs.Common.{◌≡◌, ℕ, zero, suc, ◌+◌, ◌-◌, ◌<◌, ◌≤◌, List, true, false, Option, Some, None, is_some}
use Rattle.std.proofs.Common.{Bool, leb, refl, sym, ap, ◌∙◌, arith}
use borrow.Author.Tests.{leb-false, leb-true}
use Rattle.std.specs.Option.{option_and_then}
use Rattle.plural_fallback.specs.FirstKeys.{locale_at}
use Rattle.plural_fallback.specs.declared.first_key.TheConstants.{MOST_LOCALES}
use Rattle.document_members.specs.ChainSteps.{HasSteps}
use Rattle.document_members.proofs.ChainLimits.{begins, has_ended, one_more}

-- a chain that goes on has gone on before
was_there : (next : List ℕ → Option (List ℕ)) (locale : List ℕ) (m n : ℕ) → m ≤ n → is_some (locale_at next locale n) ≡ true
    → is_some (locale_at next locale m) ≡ true
was_there next locale m n within there = by_case (locale_at next locale m) refl
  where
    by_case : (o : Option (List ℕ)) → locale_at next locale m ≡ o → is_some (locale_at next locale m) ≡ true
    by_case None e = absurd (let f : false ≡ true = has_ended next locale m n within e ∙ there in cc)
    by_case (Some at) e = ap is_some e

module _ (next : List ℕ → Option (List ℕ)) (locale at : List ℕ) where
  -- the chain of a locale on the way is the rest of the chain
  pub rest : (k n : ℕ) → locale_at next locale k ≡ Some at → locale_at next at n ≡ locale_at next locale (k + n)
  rest k zero here = let e : k ≡ k + 0 = omega arith in begins next at ∙ sym here ∙ ap (locale_at next locale) e
  rest k (suc n) here =
      let e : n + 1 ≡ suc n = omega arith in
      let f : (k + n) + 1 ≡ k + suc n = omega arith in
      ap (locale_at next at) (sym e)
      ∙ one_more next at n
      ∙ ap (option_and_then next) (rest k n here)
      ∙ sym (one_more next locale (k + n))
      ∙ ap (locale_at next locale) f

  -- the steps of a locale on the way and those before it
  pub joined : (k n : ℕ) → locale_at next locale k ≡ Some at → HasSteps next at n → HasSteps next locale (k + n)
  joined k n here steps = record {
    there = ap is_some (sym (rest k n here)) ∙ steps.there;
    ends = λ few.
        let fewer : n < MOST_LOCALES = omega arith in
        let e : (k + n) + 1 ≡ k + (n + 1) = omega arith in
        ap (locale_at next locale) e ∙ sym (rest k (n + 1) here) ∙ steps.ends fewer;
  }

  -- a chain that ends is told from each locale on the way
  pub parted : (k n left : ℕ) → left + k ≡ n → n < MOST_LOCALES → locale_at next locale k ≡ Some at → HasSteps next locale n
      → HasSteps next at left
  parted k n left is few here steps =
      let e : k + left ≡ n = omega arith in
      let f : k + (left + 1) ≡ n + 1 = omega arith in record {
        there = ap is_some (rest k left here ∙ ap (locale_at next locale) e) ∙ steps.there;
        ends = λ _. rest k (left + 1) here ∙ ap (locale_at next locale) f ∙ steps.ends few;
      }

  -- a long chain goes on from a locale that is early on the way
  pub goes_far : (k n : ℕ) → k + MOST_LOCALES ≤ n → locale_at next locale k ≡ Some at → HasSteps next locale n
      → HasSteps next at MOST_LOCALES
  goes_far k n far here steps = record {
    there = ap is_some (rest k MOST_LOCALES here) ∙ was_there next locale (k + MOST_LOCALES) n far steps.there;
    ends = λ few. absurd (omega arith);
  }

-- the last locale of a chain
pub last : (next : List ℕ → Option (List ℕ)) (locale : List ℕ) (n : ℕ) (at : List ℕ) → locale_at next locale n ≡ Some at
    → next at ≡ None → HasSteps next locale n
last next locale n at here none = record {
  there = ap is_some here;
  ends = λ _. one_more next locale n ∙ ap (option_and_then next) here ∙ none;
}

-- a chain that comes back to its first locale goes on
module _ (next : List ℕ → Option (List ℕ)) (locale : List ℕ) (k : ℕ) (some : 0 < k) (here : locale_at next locale k ≡ Some locale) where
  around : (most n : ℕ) → n ≤ most → is_some (locale_at next locale n) ≡ true
  around zero n within = was_there next locale n k (omega arith) (ap is_some here)
  around (suc most) n within = by_case (around most) (leb n k) refl
    where
      by_case : ((m : ℕ) → m ≤ most → is_some (locale_at next locale m) ≡ true) → (b : Bool) → leb n k ≡ b
          → is_some (locale_at next locale n) ≡ true
      by_case before true e = was_there next locale n k (omega (arith, leb-true)) (ap is_some here)
      by_case before false e =
          let less : n - k ≤ most = omega (arith, leb-false) in
          let f : k + (n - k) ≡ n = omega (arith, leb-false) in
          ap is_some (sym (rest next locale locale k (n - k) here ∙ ap (locale_at next locale) f)) ∙ before (n - k) less

  pub comes_back : (n : ℕ) → MOST_LOCALES ≤ n → HasSteps next locale n
  comes_back n far = record { there = around n n (omega arith); ends = λ few. absurd (omega arith) }

-- a chain goes on exactly if it has so many steps
pub is_told : (next : List ℕ → Option (List ℕ)) (locale : List ℕ) (n : ℕ) → HasSteps next locale n
    → leb MOST_LOCALES n ≡ is_some (locale_at next locale MOST_LOCALES)
is_told next locale n steps = by_case (leb MOST_LOCALES n) refl
  where
    by_case : (b : Bool) → leb MOST_LOCALES n ≡ b → leb MOST_LOCALES n ≡ is_some (locale_at next locale MOST_LOCALES)
    by_case true e = e ∙ sym (was_there next locale MOST_LOCALES n (omega (arith, leb-true)) steps.there)
    by_case false e = e ∙ has_ended next locale (n + 1) MOST_LOCALES (omega (arith, leb-false)) (steps.ends (omega (arith, leb-false)))
