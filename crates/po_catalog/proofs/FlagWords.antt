-- The flags of a text, one after the other.
use Rattle.std.proofs.Common.{◌≡◌, ◌<◌, ℕ, zero, suc, List, [], ◌∷◌, ◌++◌, flat_map, append_assoc, Bool, true, false, not, cond, slice_index_or, length, refl, sym, ap, subst, ◌∙◌, arith, if◌then◌else◌}
use Rattle.std.specs.List.{filter, slice_split, onto_first, Contains}
use Rattle.std.proofs.lemmas.List.{append-nil}
use Rattle.po_catalog.specs.Drafts.{with_comma}
use Rattle.po_catalog.specs.PoBytes.{is_between_flags, is_of_flag, catalog_run_front, behind_catalog_run, first_flag, behind_flag, is_any, message_flags_of}

-- the pieces behind the first one
abbrev pub further : List ℕ → List (List ℕ)
further [] = []
further (b ∷ s) = slice_split is_between_flags s

-- the first piece ends before the first byte between flags
first_piece : (s : List ℕ) → slice_split is_between_flags s ≡ catalog_run_front is_of_flag s ∷ further (behind_catalog_run is_of_flag s)
first_piece [] = refl
first_piece (b ∷ s) =
    elim (is_between_flags b) as (λ (v : Bool). cond v ([] ∷ slice_split is_between_flags s) (onto_first b (slice_split is_between_flags s))
    ≡ (if not v then b ∷ catalog_run_front is_of_flag s else []) ∷ further (if not v then behind_catalog_run is_of_flag s else b ∷ s)) [
      | true ↦ refl
      | false ↦ ap (onto_first b) (first_piece s)
    ]

-- what separates a flag from the next is none
further_flags : (s : List ℕ) → filter is_any (further (behind_catalog_run is_of_flag s)) ≡ message_flags_of (behind_catalog_run is_of_flag s)
further_flags [] = refl
further_flags (b ∷ s) =
    elim (is_between_flags b) as (λ (v : Bool). is_between_flags b ≡ v
    → filter is_any (further (if not v then behind_catalog_run is_of_flag s else b ∷ s))
    ≡ message_flags_of (if not v then behind_catalog_run is_of_flag s else b ∷ s)) [
      | true ↦ λ e. sym (ap (λ (v : Bool). filter is_any
          (cond v ([] ∷ slice_split is_between_flags s) (onto_first b (slice_split is_between_flags s)))) e)
      | false ↦ λ e. further_flags s
    ] refl

-- bytes between flags are none
between_flags : (s : List ℕ) → message_flags_of s ≡ message_flags_of (behind_catalog_run is_between_flags s)
between_flags [] = refl
between_flags (b ∷ s) =
    elim (is_between_flags b) as (λ (v : Bool). is_between_flags b ≡ v
    → message_flags_of (b ∷ s) ≡ message_flags_of (if v then behind_catalog_run is_between_flags s else b ∷ s)) [
      | true ↦ λ e. ap (λ (v : Bool). filter is_any
          (cond v ([] ∷ slice_split is_between_flags s) (onto_first b (slice_split is_between_flags s)))) e ∙ between_flags s
      | false ↦ λ e. refl
    ] refl

-- nothing stands behind an empty flag
no_flag : (s : List ℕ) → length (first_flag s) ≡ 0 → behind_catalog_run is_between_flags s ≡ []
no_flag [] = λ h. refl
no_flag (b ∷ s) =
    elim (is_between_flags b) as (λ (v : Bool). is_between_flags b ≡ v
    → length (catalog_run_front is_of_flag (if v then behind_catalog_run is_between_flags s else b ∷ s)) ≡ 0
    → (if v then behind_catalog_run is_between_flags s else b ∷ s) ≡ []) [
      | true ↦ λ e h. no_flag s h
      | false ↦ λ e h.
          let one : length (catalog_run_front is_of_flag (b ∷ s)) ≡ suc (length (catalog_run_front is_of_flag s)) =
          ap (λ (v : Bool). length (if not v then b ∷ catalog_run_front is_of_flag s else [])) e in
          absurd (omega (arith, one, h))
    ] refl

kept : (flag : List ℕ) (flags : List (List ℕ)) → 0 < length flag → filter is_any (flag ∷ flags) ≡ flag ∷ filter is_any flags
kept [] flags h = absurd (omega (arith, h))
kept (b ∷ s) flags h = refl

-- the first flag is one of them, and the others follow it
pub flags-cons : (s : List ℕ) → 0 < length (first_flag s) → message_flags_of s ≡ first_flag s ∷ message_flags_of (behind_flag s)
flags-cons s h =
    between_flags s
    ∙ (ap (filter is_any) (first_piece (behind_catalog_run is_between_flags s))
    ∙ (kept (first_flag s) (further (behind_flag s)) h
    ∙ ap (λ (flags : List (List ℕ)). first_flag s ∷ flags) (further_flags (behind_catalog_run is_between_flags s))))

pub flags-nil : (s : List ℕ) → length (first_flag s) ≡ 0 → message_flags_of s ≡ []
flags-nil s h = between_flags s ∙ ap message_flags_of (no_flag s h)

-- ---- whether a flag is one of them

pub Contains-head : (flag name : List ℕ) (flags : List (List ℕ)) → flag ≡ name → Contains (flag ∷ flags) name
Contains-head flag name flags e = (zero, omega arith, e)

pub Contains-tail : (flag name : List ℕ) (flags : List (List ℕ)) → Contains flags name → Contains (flag ∷ flags) name
Contains-tail flag name flags h = (suc h.0, omega (arith, h.1), h.2)

at_tail : (flag name : List ℕ) (flags : List (List ℕ)) (k : ℕ) → (flag ≡ name → ⊥) → k < length (flag ∷ flags)
    → slice_index_or (flag ∷ flags) k name ≡ name → Contains flags name
at_tail flag name flags zero ne lt e = absurd (ne e)
at_tail flag name flags (suc k) ne lt e = (k, omega (arith, lt), e)

pub Contains-later : (flag name : List ℕ) (flags : List (List ℕ)) → (flag ≡ name → ⊥) → Contains (flag ∷ flags) name → Contains flags name
Contains-later flag name flags ne h = at_tail flag name flags h.0 ne h.1 h.2

pub Contains-nil : (name : List ℕ) → Contains [] name → ⊥
Contains-nil name h = omega (arith, h.1)

-- ---- the search for a flag

pub none_left : (whole rest name flag : List ℕ) → (Contains (message_flags_of whole) name → Contains (message_flags_of rest) name)
    → flag ≡ first_flag rest → length flag ≡ 0
    → Contains (message_flags_of whole) name → ⊥
none_left whole rest name flag left e none h =
    Contains-nil name (subst (λ (flags : List (List ℕ)). Contains flags name) (flags-nil rest (ap length (sym e) ∙ none)) (left h))

pub found_here : (rest name flag : List ℕ) → flag ≡ first_flag rest → 0 < length flag → flag ≡ name → Contains (message_flags_of rest) name
found_here rest name flag e some is =
    let any : 0 < length (first_flag rest) = omega (arith, some, ap length e) in
    subst (λ (flags : List (List ℕ)). Contains flags name) (sym (flags-cons rest any))
    (Contains-head (first_flag rest) name (message_flags_of (behind_flag rest)) (sym e ∙ is))

pub found_later : (rest name flag after : List ℕ) → flag ≡ first_flag rest → after ≡ behind_flag rest → 0 < length flag
    → Contains (message_flags_of after) name → Contains (message_flags_of rest) name
found_later rest name flag after e f some h =
    let any : 0 < length (first_flag rest) = omega (arith, some, ap length e) in
    subst (λ (flags : List (List ℕ)). Contains flags name) (sym (flags-cons rest any))
    (Contains-tail (first_flag rest) name (message_flags_of (behind_flag rest)) (subst (λ (s : List ℕ). Contains (message_flags_of s) name) f h))

pub left_later : (rest name flag after : List ℕ) → flag ≡ first_flag rest → after ≡ behind_flag rest → 0 < length flag → (flag ≡ name → ⊥)
    → Contains (message_flags_of rest) name → Contains (message_flags_of after) name
left_later rest name flag after e f some ne h =
    let any : 0 < length (first_flag rest) = omega (arith, some, ap length e) in
    subst (λ (s : List ℕ). Contains (message_flags_of s) name) (sym f)
    (Contains-later (first_flag rest) name (message_flags_of (behind_flag rest)) (λ is. ne (e ∙ is))
    (subst (λ (flags : List (List ℕ)). Contains flags name) (flags-cons rest any) h))

-- ---- the flags of a comment are added one after the other

pub no_more_flags : (now whole rest flag : List ℕ) → now ++ flat_map with_comma (message_flags_of rest) ≡ whole → flag ≡ first_flag rest
    → length flag ≡ 0 → now ≡ whole
no_more_flags now whole rest flag h e none =
    sym (append-nil now)
    ∙ (ap (λ (flags : List (List ℕ)). now ++ flat_map with_comma flags) (sym (flags-nil rest (ap length (sym e) ∙ none))) ∙ h)

pub more_flags : (now mid next whole rest flag after : List ℕ) → now ++ flat_map with_comma (message_flags_of rest) ≡ whole
    → flag ≡ first_flag rest → after ≡ behind_flag rest
    → 0 < length flag → mid ≡ now ++ flag → next ≡ mid ++ 44 ∷ [] → next ++ flat_map with_comma (message_flags_of after) ≡ whole
more_flags now mid next whole rest flag after h e f some is comma =
    let any : 0 < length (first_flag rest) = omega (arith, some, ap length e) in
    let more = flat_map with_comma (message_flags_of after) in
    let words : flat_map with_comma (message_flags_of rest) ≡ with_comma flag ++ more
    = ap (λ (flags : List (List ℕ)). flat_map with_comma flags) (flags-cons rest any)
    ∙ (ap (λ (t : List ℕ). with_comma t ++ flat_map with_comma (message_flags_of (behind_flag rest))) (sym e)
    ∙ ap (λ (t : List ℕ). with_comma flag ++ flat_map with_comma (message_flags_of t)) (sym f)) in
    ap (λ (t : List ℕ). t ++ more) (comma ∙ ap (λ (t : List ℕ). t ++ 44 ∷ []) is)
    ∙ (ap (λ (t : List ℕ). t ++ more) (append_assoc now flag (44 ∷ []))
    ∙ (append_assoc now (with_comma flag) more
    ∙ (ap (λ (t : List ℕ). now ++ t) (sym words) ∙ h)))
