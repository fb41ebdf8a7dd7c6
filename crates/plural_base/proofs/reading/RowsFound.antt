-- What a search by halves among entries in order finds.
use Rattle.std.proofs.Common.{◌≡◌, ◌<◌, ◌+◌, ℕ, zero, suc, List, [], ◌∷◌, length, get_or, map, false, Some, None}
use Rattle.std.proofs.Common.{String, Global, Ordering, Less, Equal, Greater, string_bytes, nat_cmp, is_eq, bytes_eq}
use Rattle.std.proofs.Common.{arith, refl, sym, ap, subst, ◌∙◌, ⊎_elim}
use Rattle.std.proofs.lemmas.Bool.{cases_lt}
use Rattle.std.proofs.lemmas.Cmp.{nat_list_cmp_total}
use Rattle.std.proofs.lemmas.List.{get_or_default}
use Rattle.std.proofs.lemmas.Map.Text.{is_eq-slice_cmp}
use Rattle.std.specs.Cmp.Lexicographic.{slice_cmp}
use Rattle.std.specs.List.{AllByRecursion, AllWithin}
use Rattle.std.specs.List.Sorted.{IsStrictlySortedBy}
use Rattle.std.specs.Map.{keys_of}
use Rattle.std.specs.Ordering.{ordering_reverse}
use Rattle.plural_base.specs.DocumentJson.{Rows, found}
use Rattle.plural_base.specs.Inner.JsonSteps.{Ascend, row_of_entry}

-- how two texts of bytes compare
abbrev compared : List ℕ → List ℕ → Ordering
compared = slice_cmp nat_cmp

-- two texts compare the other way round
turned : (a b : List ℕ) (o : Ordering) → compared a b ≡ o → compared b a ≡ ordering_reverse o
turned a b o h = nat_list_cmp_total.antisymm b a ∙ ap ordering_reverse h

-- texts are equal if they compare so
told_equal : (a b : List ℕ) (o : Ordering) → compared a b ≡ o → bytes_eq a b ≡ is_eq o
told_equal a b o h = sym (is_eq-slice_cmp a b) ∙ ap is_eq h

module _ {V : Type 0} where
  -- the bytes of an entry's text
  abbrev key : String Global × V → List ℕ
  key e = string_bytes e.0

  -- what comes before all keys comes before that of each entry
  below_at : (first : List ℕ) (es : List (String Global × V)) (i : ℕ) (d : String Global × V)
      → AllByRecursion (λ y. compared first y ≡ Less) (keys_of (map row_of_entry es))
      → i < length es
      → compared first (key (get_or es i d)) ≡ Less
  below_at first [] i d h within = absurd (omega arith)
  below_at first (e ∷ es) zero d h within = h.0
  below_at first (e ∷ es) (suc i) d h within = below_at first es i d h.1 (omega arith)

  -- of keys that ascend an earlier one comes before a later one
  ascending : (es : List (String Global × V)) (i j : ℕ) (d : String Global × V) → Ascend (keys_of (map row_of_entry es)) → i < j
      → j < length es
      → compared (key (get_or es i d)) (key (get_or es j d)) ≡ Less
  unfolding IsStrictlySortedBy
  ascending [] i j d h rises within = absurd (omega arith)
  ascending (e ∷ es) i zero d h rises within = absurd (omega arith)
  ascending (e ∷ es) zero (suc j) d h rises within = below_at (key e) es j d h.0 (omega arith)
  ascending (e ∷ es) (suc i) (suc j) d h rises within = ascending es i j d h.1 (omega arith) (omega arith)

  module _ (locale : List ℕ) (es : List (String Global × V)) where
    -- a text comes behind the first n entries
    abbrev pub IsBehind : ℕ → Type 0
    IsBehind n = AllWithin (λ e. slice_cmp nat_cmp locale (string_bytes e.0) ≡ Greater) es 0 n

    -- and before all entries from the place n on
    abbrev pub IsBefore : ℕ → Type 0
    IsBefore n = AllWithin (λ e. slice_cmp nat_cmp locale (string_bytes e.0) ≡ Less) es n (length es)

    -- what comes behind an entry comes behind those up to it
    pub behind_all : (m : ℕ) (x : String Global × V) → Ascend (keys_of (map row_of_entry es)) → m < length es → x ≡ get_or es m x
        → slice_cmp nat_cmp locale (string_bytes x.0) ≡ Greater
        → IsBehind (m + 1)
    behind_all m x h within is greater = λ j d low below.
        let there : compared locale (key (get_or es m d)) ≡ Greater =
        subst (λ (e : String Global × V). compared locale (key e) ≡ Greater) (is ∙ get_or_default es m x d within) greater in
        ⊎_elim
        (λ earlier. turned (key (get_or es j d)) locale Less
        (nat_list_cmp_total.trans (key (get_or es j d)) (key (get_or es m d)) locale (ascending es j m d h earlier within)
        (turned locale (key (get_or es m d)) Greater there)))
        (λ here. subst (λ (k : ℕ). compared locale (key (get_or es k d)) ≡ Greater) (omega arith) there)
        (cases_lt j m)

    -- what comes before an entry comes before those from it on
    pub before_all : (m : ℕ) (x : String Global × V) → Ascend (keys_of (map row_of_entry es)) → m < length es → x ≡ get_or es m x
        → slice_cmp nat_cmp locale (string_bytes x.0) ≡ Less
        → IsBefore m
    before_all m x h within is less = λ j d low below.
        let there : compared locale (key (get_or es m d)) ≡ Less =
        subst (λ (e : String Global × V). compared locale (key e) ≡ Less) (is ∙ get_or_default es m x d within) less in
        ⊎_elim
        (λ later. nat_list_cmp_total.trans locale (key (get_or es m d)) (key (get_or es j d)) there (ascending es m j d h later below))
        (λ here. subst (λ (k : ℕ). compared locale (key (get_or es k d)) ≡ Less) (omega arith) there)
        (cases_lt m j)

  -- where no entry has the text, nothing is found
  none_found : (locale : List ℕ) (es : List (String Global × V))
      → ((i : ℕ) (d : String Global × V) → i < length es → bytes_eq locale (key (get_or es i d)) ≡ false)
      → found locale (map row_of_entry es) ≡ None
  none_found locale [] h = refl
  none_found locale (e ∷ es) h =
      rw (h zero e (omega arith)) (none_found locale es (λ i d within. h (suc i) d (omega arith)))

  -- the entry at a place that has the text is found, where the keys ascend
  found_at : (locale : List ℕ) (es : List (String Global × V)) (i : ℕ) (d : String Global × V)
      → Ascend (keys_of (map row_of_entry es))
      → i < length es
      → compared locale (key (get_or es i d)) ≡ Equal
      → found locale (map row_of_entry es) ≡ Some (get_or es i d).1
  unfolding IsStrictlySortedBy
  found_at locale [] i d h within same = absurd (omega arith)
  found_at locale (e ∷ es) zero d h within same = rw (told_equal locale (key e) Equal same) refl
  found_at locale (e ∷ es) (suc i) d h within same =
      let first : compared locale (key e) ≡ Greater = nat_list_cmp_total.congr locale (key (get_or es i d)) (key e) same
      ∙ turned (key e) (key (get_or es i d)) Less (below_at (key e) es i d h.0 (omega arith)) in
      rw (told_equal locale (key e) Greater first) (found_at locale es i d h.1 (omega arith) same)

  module _ (locale : List ℕ) (es : List (String Global × V)) (rows : Rows V) (same : map row_of_entry es ≡ rows) where
    -- an entry that has the text is what is found among the rows
    pub entry_found : (i : ℕ) (x : String Global × V) → Ascend (keys_of rows) → i < length es → x ≡ get_or es i x
        → slice_cmp nat_cmp locale (string_bytes x.0) ≡ Equal
        → Some x.1 ≡ found locale rows
    entry_found i x h within is equal =
        ap (λ (e : String Global × V). Some e.1) is
        ∙ sym (found_at locale es i x (rw same h) within
        (subst (λ (e : String Global × V). compared locale (key e) ≡ Equal) is equal))
        ∙ ap (λ (r : Rows V). found locale r) same

    -- nothing is found of a text between the entries before a place and those from it on
    pub none_between : (i : ℕ) → IsBehind locale es i → IsBefore locale es i → None ≡ found locale rows
    none_between i behind before =
        sym (none_found locale es (λ j d within.
        ⊎_elim (λ low. told_equal locale (key (get_or es j d)) Greater (behind j d (omega arith) low))
        (λ high. told_equal locale (key (get_or es j d)) Less (before j d high within)) (cases_lt j i)))
        ∙ ap (λ (r : Rows V). found locale r) same
