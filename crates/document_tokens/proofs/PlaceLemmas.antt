-- How a place of a JSON text goes on.
use Rattle.std.proofs.Common.{◌≡◌, ℕ, suc, ◌-◌, ◌<◌, ◌≤◌, List, [], ◌∷◌, length, Bool, true, false, refl, true≢false, arith}
use Rattle.std.specs.Prelude.{drop}
use Rattle.json.specs.Token.{Token}
use Rattle.document_tokens.specs.HeldTokens.{held_of, opened_after}
use Rattle.document_tokens.specs.Inner.OpenBrackets.{Comes, CompletesOpen, beginning, ending, goes_on, is_scalar, may_have_value}
use Rattle.document_tokens.proofs.OpenLemmas.{Follows, follows, leads}

nothing_left : (t : Token) (ts : List Token) → t ∷ ts ≡ [] → ⊥
nothing_left t ts is = absurd (cc)

-- ---- How many are open

pub one_more : (k : Bool) (n : ℕ) → opened_after n (held_of (beginning k)) ≡ suc n
one_more true n = refl
one_more false n = refl

pub one_less : (k : Bool) (n : ℕ) → opened_after n (held_of (ending k)) ≡ n - 1
one_less true n = refl
one_less false n = refl

pub as_many : (t : Token) (n : ℕ) → is_scalar t ≡ true → opened_after n (held_of t) ≡ n
as_many Token.begin_object n is = absurd (true≢false (cc))
as_many Token.end_object n is = absurd (true≢false (cc))
as_many Token.begin_array n is = absurd (true≢false (cc))
as_many Token.end_array n is = absurd (true≢false (cc))
as_many (Token.key k) n is = refl
as_many (Token.string s) n is = refl
as_many (Token.number s) n is = refl
as_many (Token.boolean b) n is = refl
as_many Token.null n is = refl
as_many Token.bad n is = refl

-- ---- What comes

module _ (most : ℕ) where
  abbrev Next : Bool → List Bool → List Token → Type 0
  Next is_due opened ts = Comes most [] is_due opened ts

  abbrev Same : Type 0 → Type 0 → Type 0
  Same A B = (A → B) × (B → A)

  by : (is_due : Bool) (opened : List Bool) (t : Token) (ts : List Token)
      → Same (Next is_due opened (t ∷ ts)) (Follows most [] is_due opened t ts)
  by is_due opened t ts = (follows most [] is_due opened t ts, leads most [] is_due opened t ts)

  -- ---- An object or an array ends

  pub ends : (k is_due : Bool) (opened : List Bool) (ts : List Token) → goes_on k is_due opened ≡ true
      → Same (Next is_due opened (ending k ∷ ts)) (Next is_due (drop 1 opened) ts)
  ends k true opened ts is = absurd (true≢false (cc))
  ends k false [] ts is = absurd (true≢false (cc))
  ends true false (true ∷ opened) ts is = by false (true ∷ opened) Token.end_object ts
  ends true false (false ∷ opened) ts is = absurd (true≢false (cc))
  ends false false (true ∷ opened) ts is = absurd (true≢false (cc))
  ends false false (false ∷ opened) ts is = by false (false ∷ opened) Token.end_array ts

  pub no_ending : (k is_due : Bool) (opened : List Bool) (ts : List Token) → goes_on k is_due opened ≡ false
      → Next is_due opened (ending k ∷ ts) → ⊥
  no_ending true true opened ts is comes = follows most [] true opened Token.end_object ts comes
  no_ending false true opened ts is comes = follows most [] true opened Token.end_array ts comes
  no_ending true false [] ts is comes = nothing_left Token.end_object ts comes
  no_ending false false [] ts is comes = nothing_left Token.end_array ts comes
  no_ending true false (true ∷ opened) ts is comes = absurd (true≢false is)
  no_ending true false (false ∷ opened) ts is comes = follows most [] false (false ∷ opened) Token.end_object ts comes
  no_ending false false (true ∷ opened) ts is comes = follows most [] false (true ∷ opened) Token.end_array ts comes
  no_ending false false (false ∷ opened) ts is comes = absurd (true≢false is)

  -- ---- A value begins

  begun : (k : Bool) (opened : List Bool) (ts : List Token) → length opened < most
      → Same (Follows most [] true opened (beginning k) ts) (CompletesOpen most [] (k ∷ opened) ts)
  begun true opened ts in_most = (λ is. is.1, λ is. (in_most, is))
  begun false opened ts in_most = (λ is. is.1, λ is. (in_most, is))

  -- what may begin follows as a value does
  pub begins : (k is_due : Bool) (opened : List Bool) (ts : List Token) → may_have_value is_due opened ≡ true → length opened < most
      → Same (Next is_due opened (beginning k ∷ ts)) (Next false (k ∷ opened) ts)
  begins k true opened ts may in_most = (
    λ is. (begun k opened ts in_most).0 (follows most [] true opened (beginning k) ts is),
    λ is. leads most [] true opened (beginning k) ts ((begun k opened ts in_most).1 is),
  )
  begins k false [] ts may in_most = absurd (true≢false (cc))
  begins k false (true ∷ opened) ts may in_most = absurd (true≢false (cc))
  begins true false (false ∷ opened) ts may in_most = (
    λ is. (follows most [] false (false ∷ opened) Token.begin_object ts is).1,
    λ is. leads most [] false (false ∷ opened) Token.begin_object ts (in_most, is),
  )
  begins false false (false ∷ opened) ts may in_most = (
    λ is. (follows most [] false (false ∷ opened) Token.begin_array ts is).1,
    λ is. leads most [] false (false ∷ opened) Token.begin_array ts (in_most, is),
  )

  not_both : (n m : ℕ) → n < m → m ≤ n → ⊥
  not_both n m less more = omega arith

  pub too_deep : (k is_due : Bool) (opened : List Bool) (ts : List Token) → most ≤ length opened → Next is_due opened (beginning k ∷ ts) → ⊥
  too_deep true true opened ts deep comes = not_both (length opened) most (follows most [] true opened Token.begin_object ts comes).0 deep
  too_deep false true opened ts deep comes = not_both (length opened) most (follows most [] true opened Token.begin_array ts comes).0 deep
  too_deep true false [] ts deep comes = nothing_left Token.begin_object ts comes
  too_deep false false [] ts deep comes = nothing_left Token.begin_array ts comes
  too_deep true false (true ∷ opened) ts deep comes = follows most [] false (true ∷ opened) Token.begin_object ts comes
  too_deep false false (true ∷ opened) ts deep comes = follows most [] false (true ∷ opened) Token.begin_array ts comes
  too_deep true false (false ∷ opened) ts deep comes =
      not_both (length (false ∷ opened)) most (follows most [] false (false ∷ opened) Token.begin_object ts comes).0 deep
  too_deep false false (false ∷ opened) ts deep comes =
      not_both (length (false ∷ opened)) most (follows most [] false (false ∷ opened) Token.begin_array ts comes).0 deep

  pub no_beginning : (k is_due : Bool) (opened : List Bool) (ts : List Token) → may_have_value is_due opened ≡ false
      → Next is_due opened (beginning k ∷ ts) → ⊥
  no_beginning k true opened ts may comes = absurd (true≢false may)
  no_beginning true false [] ts may comes = nothing_left Token.begin_object ts comes
  no_beginning false false [] ts may comes = nothing_left Token.begin_array ts comes
  no_beginning true false (true ∷ opened) ts may comes = follows most [] false (true ∷ opened) Token.begin_object ts comes
  no_beginning false false (true ∷ opened) ts may comes = follows most [] false (true ∷ opened) Token.begin_array ts comes
  no_beginning k false (false ∷ opened) ts may comes = absurd (true≢false may)

  -- ---- A key

  pub keys : (k : List ℕ) (is_due : Bool) (opened : List Bool) (ts : List Token) → goes_on true is_due opened ≡ true
      → Same (Next is_due opened (Token.key k ∷ ts)) (Next true opened ts)
  keys k true opened ts is = absurd (true≢false (cc))
  keys k false [] ts is = absurd (true≢false (cc))
  keys k false (true ∷ opened) ts is = by false (true ∷ opened) (Token.key k) ts
  keys k false (false ∷ opened) ts is = absurd (true≢false (cc))

  pub no_key : (k : List ℕ) (is_due : Bool) (opened : List Bool) (ts : List Token) → goes_on true is_due opened ≡ false
      → Next is_due opened (Token.key k ∷ ts) → ⊥
  no_key k true opened ts is comes = follows most [] true opened (Token.key k) ts comes
  no_key k false [] ts is comes = nothing_left (Token.key k) ts comes
  no_key k false (true ∷ opened) ts is comes = absurd (true≢false is)
  no_key k false (false ∷ opened) ts is comes = follows most [] false (false ∷ opened) (Token.key k) ts comes

  -- ---- A value of one token

  scalar : (t : Token) (opened : List Bool) (ts : List Token) → is_scalar t ≡ true
      → Same (Follows most [] true opened t ts) (CompletesOpen most [] opened ts)
  scalar Token.begin_object opened ts is = absurd (true≢false (cc))
  scalar Token.end_object opened ts is = absurd (true≢false (cc))
  scalar Token.begin_array opened ts is = absurd (true≢false (cc))
  scalar Token.end_array opened ts is = absurd (true≢false (cc))
  scalar (Token.key k) opened ts is = absurd (true≢false (cc))
  scalar (Token.string s) opened ts is = (λ it. it, λ it. it)
  scalar (Token.number s) opened ts is = (λ it. it, λ it. it)
  scalar (Token.boolean b) opened ts is = (λ it. it, λ it. it)
  scalar Token.null opened ts is = (λ it. it, λ it. it)
  scalar Token.bad opened ts is = absurd (true≢false (cc))

  in_array : (t : Token) (opened : List Bool) (ts : List Token) → is_scalar t ≡ true
      → Same (Follows most [] false (false ∷ opened) t ts) (CompletesOpen most [] (false ∷ opened) ts)
  in_array Token.begin_object opened ts is = absurd (true≢false (cc))
  in_array Token.end_object opened ts is = absurd (true≢false (cc))
  in_array Token.begin_array opened ts is = absurd (true≢false (cc))
  in_array Token.end_array opened ts is = absurd (true≢false (cc))
  in_array (Token.key k) opened ts is = absurd (true≢false (cc))
  in_array (Token.string s) opened ts is = (λ it. it, λ it. it)
  in_array (Token.number s) opened ts is = (λ it. it, λ it. it)
  in_array (Token.boolean b) opened ts is = (λ it. it, λ it. it)
  in_array Token.null opened ts is = (λ it. it, λ it. it)
  in_array Token.bad opened ts is = absurd (true≢false (cc))

  chained : {A B C : Type 0} → Same A B → Same B C → Same A C
  chained one two = (λ a. two.0 (one.0 a), λ c. one.1 (two.1 c))

  pub scalars : (t : Token) (is_due : Bool) (opened : List Bool) (ts : List Token) → is_scalar t ≡ true
      → may_have_value is_due opened ≡ true
      → Same (Next is_due opened (t ∷ ts)) (Next false opened ts)
  scalars t true opened ts is may = chained (by true opened t ts) (scalar t opened ts is)
  scalars t false [] ts is may = absurd (true≢false (cc))
  scalars t false (true ∷ opened) ts is may = absurd (true≢false (cc))
  scalars t false (false ∷ opened) ts is may = chained (by false (false ∷ opened) t ts) (in_array t opened ts is)

  in_object : (t : Token) (opened : List Bool) (ts : List Token) → is_scalar t ≡ true → Follows most [] false (true ∷ opened) t ts → ⊥
  in_object Token.begin_object opened ts is comes = comes
  in_object Token.end_object opened ts is comes = absurd (true≢false (cc))
  in_object Token.begin_array opened ts is comes = comes
  in_object Token.end_array opened ts is comes = comes
  in_object (Token.key k) opened ts is comes = absurd (true≢false (cc))
  in_object (Token.string s) opened ts is comes = comes
  in_object (Token.number s) opened ts is comes = comes
  in_object (Token.boolean b) opened ts is comes = comes
  in_object Token.null opened ts is comes = comes
  in_object Token.bad opened ts is comes = comes

  pub no_scalar : (t : Token) (is_due : Bool) (opened : List Bool) (ts : List Token) → is_scalar t ≡ true
      → may_have_value is_due opened ≡ false
      → Next is_due opened (t ∷ ts) → ⊥
  no_scalar t true opened ts is may comes = absurd (true≢false may)
  no_scalar t false [] ts is may comes = nothing_left t ts comes
  no_scalar t false (true ∷ opened) ts is may comes = in_object t opened ts is (follows most [] false (true ∷ opened) t ts comes)
  no_scalar t false (false ∷ opened) ts is may comes = absurd (true≢false may)
