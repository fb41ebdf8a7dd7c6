-- The keys of an object that stand there more than once.
use Rattle.std.proofs.Common.{◌≡◌, ℕ, ◌+◌, ◌<◌, ◌≤◌, List, [], ◌∷◌, ◌++◌, map, Bool, true, false, true≢false, cond, not, ◌||◌}
use Rattle.std.proofs.Common.{bytes_eq, Ordering, Less, Equal, Greater, is_eq, nat_cmp, append_assoc, add-zero, zero-add, refl}
use Rattle.std.proofs.Common.{sym, ap, subst, ◌∙◌, arith}
use Rattle.std.proofs.lemmas.Bool.{ltb-true, lt-ltb, le-ltb, ltb-false}
use Rattle.std.proofs.lemmas.List.{map-append}
use Rattle.std.proofs.lemmas.List.Sums.{sum_by-append}
use Rattle.std.proofs.lemmas.Map.Views.{Contains-from_any, list_any-from_Contains}
use Rattle.std.proofs.lemmas.Map.Text.{is_eq-slice_cmp}
use Rattle.std.proofs.lemmas.Slice.Eq.{bytes_eq-Decides}
use Rattle.std.specs.Prelude.{nat_lt}
use Rattle.std.specs.Borrow.{Bor}
use Rattle.std.specs.BTreeMap.{is_at}
use Rattle.std.specs.BTreeSet.{BTreeSet, insert_key}
use Rattle.std.specs.Cmp.Lexicographic.{nat_list_eq_equiv, slice_cmp}
use Rattle.std.specs.List.{AllByRecursion, count_by, list_any}
use Rattle.std.specs.List.Sorted.{IsStrictlySortedBy}
use Rattle.std.specs.Map.Iter.{deref}
use Rattle.plural_documents.specs.Inner.KeysStanding.{AreStanding, HasAdded, IsFoundAgain, names_in_set}
use Rattle.plural_documents.specs.RepeatedKeys.{AreRepeated, Path, RepeatedAt, repeated_view}
use Rattle.plural_documents.specs.declared.repeated_key.RepeatedKey.{RepeatedKey}
use Rattle.plural_documents.specs.declared.repeated_key.StandingKeys.{StandingKeys}

abbrev pub Key : Type 0
Key = Bor (List ℕ)

abbrev pub key_cmp : Key → Key → Ordering
key_cmp x y = slice_cmp nat_cmp x.now y.now

abbrev pub names : List Key → List (List ℕ)
names ks = map (λ key. key.now) ks

same_name : (a b : List ℕ) → bytes_eq a b ≡ true → a ≡ b
same_name a b h = (bytes_eq-Decides a b).0 h

pub was_there : (has added : Bool) → added ≡ not has → added ≡ false → has ≡ true
was_there true added is none = refl
was_there false added is none = absurd (true≢false (sym is ∙ none))

pub was_not_there : (has added : Bool) → added ≡ not has → added ≡ true → has ≡ false
was_not_there true added is one = absurd (true≢false (sym one ∙ is))
was_not_there false added is one = refl

-- ---- A set of keys

-- it has a key if it has its name
pub found_by_name : (key : Key) (ks : List Key) → list_any (is_at (key_cmp key)) ks ≡ list_any (bytes_eq key.now) (names ks)
found_by_name key [] = refl
found_by_name key (k ∷ ks) =
    ap (λ (b : Bool). b || list_any (is_at (key_cmp key)) ks) (is_eq-slice_cmp key.now k.now)
    ∙ ap (λ (b : Bool). bytes_eq key.now k.now || b) (found_by_name key ks)

turned : (a b c : Bool) → (a || (b || c)) ≡ (b || (a || c))
turned true true c = refl
turned true false c = refl
turned false b c = refl

twice : (a b : Bool) → (a || b) ≡ (a || (a || b))
twice true b = refl
twice false b = refl

-- after one more
pub any_inserted : (q : List ℕ) (key : Key) (ks : List Key)
    → list_any (bytes_eq q) (names (insert_key key_cmp ks key)) ≡ (bytes_eq q key.now || list_any (bytes_eq q) (names ks))
any_inserted q key [] = refl
any_inserted q key (k ∷ ks) = by (key_cmp key k) refl (any_inserted q key ks)
  where
    by : (o : Ordering) → key_cmp key k ≡ o
        → list_any (bytes_eq q) (names (insert_key key_cmp ks key)) ≡ (bytes_eq q key.now || list_any (bytes_eq q) (names ks))
        → list_any (bytes_eq q) (names (insert_key key_cmp (k ∷ ks) key)) ≡ (bytes_eq q key.now || list_any (bytes_eq q) (names (k ∷ ks)))
    by Less is more = rw is refl
    by Equal is more =
        let same : key.now ≡ k.now = same_name key.now k.now (sym (is_eq-slice_cmp key.now k.now) ∙ ap is_eq is) in
        rw (is, same) (twice (bytes_eq q k.now) (list_any (bytes_eq q) (names ks)))
    by Greater is more =
        rw is (ap (λ (b : Bool). bytes_eq q k.now || b) more
        ∙ turned (bytes_eq q k.now) (bytes_eq q key.now) (list_any (bytes_eq q) (names ks)))

-- ---- How often a key stands there

abbrev one_if : Bool → ℕ
one_if b = cond b 1 0

pub count_after : (q key : List ℕ) (keys : List (List ℕ))
    → count_by (bytes_eq q) (keys ++ key ∷ []) ≡ count_by (bytes_eq q) keys + one_if (bytes_eq q key)
count_after q key keys =
    sum_by-append (λ k. one_if (bytes_eq q k)) keys (key ∷ [])
    ∙ ap (λ n. count_by (bytes_eq q) keys + n) (zero-add (one_if (bytes_eq q key)))

above : (least n : ℕ) → nat_lt least n ≡ true → nat_lt least (n + 1) ≡ true
above least n is = let h = ltb-true least n is in lt-ltb least (n + 1) (omega arith)

one_more : (n : ℕ) → nat_lt 0 (n + 1) ≡ true
one_more n = lt-ltb 0 (n + 1) (omega arith)

once_more : (b any : Bool) (n : ℕ) → any ≡ nat_lt 0 n → (b || any) ≡ nat_lt 0 (n + one_if b)
once_more true any n is = sym (one_more n)
once_more false any n is = is ∙ ap (nat_lt 0) (sym (add-zero n))

again_more : (b any : Bool) (n : ℕ) → any ≡ nat_lt 1 n → (b ≡ true → nat_lt 0 n ≡ true) → (b || any) ≡ nat_lt 1 (n + one_if b)
again_more true any n is stood = let h = ltb-true 0 n (stood refl) in sym (lt-ltb 1 (n + 1) (omega arith))
again_more false any n is stood = is ∙ ap (nat_lt 1) (sym (add-zero n))

not_again : (b any : Bool) (n : ℕ) → any ≡ nat_lt 1 n → (b ≡ true → nat_lt 0 n ≡ false) → any ≡ nat_lt 1 (n + one_if b)
not_again true any n is new =
    let h = ltb-false 0 n (new refl) in
    is ∙ le-ltb 1 n (omega arith) ∙ sym (le-ltb 1 (n + 1) (omega arith))
not_again false any n is new = is ∙ ap (nat_lt 1) (sym (add-zero n))

-- a key of this name stood there as often
as_often : (q key : List ℕ) (keys : List (List ℕ)) (b : Bool) → nat_lt 0 (count_by (bytes_eq key) keys) ≡ b → bytes_eq q key ≡ true
    → nat_lt 0 (count_by (bytes_eq q) keys) ≡ b
as_often q key keys b is same = subst (λ k. nat_lt 0 (count_by (bytes_eq k) keys) ≡ b) (sym (same_name q key same)) is

module _ (keys : List (List ℕ)) (key : Key) (old : StandingKeys) (once again : BTreeSet Key) (are : AreStanding keys old)
    (put : once.keys ≡ insert_key key_cmp old.once.keys key) where
  stands_once : (q : List ℕ) → list_any (bytes_eq q) (names_in_set once) ≡ nat_lt 0 (count_by (bytes_eq q) (keys ++ key.now ∷ []))
  stands_once q =
      ap (λ ks. list_any (bytes_eq q) (names ks)) put ∙ any_inserted q key old.once.keys
      ∙ once_more (bytes_eq q key.now) (list_any (bytes_eq q) (names_in_set old.once)) (count_by (bytes_eq q) keys) (are.once q)
      ∙ ap (nat_lt 0) (sym (count_after q key.now keys))

  -- a key that stood there
  pub stands_again : again.keys ≡ insert_key key_cmp old.again.keys key → list_any (is_at (key_cmp key)) old.once.keys ≡ true
      → AreStanding (keys ++ key.now ∷ []) (record { once = once; again = again })
  stands_again put_again stood = record {
    once = stands_once;
    again = λ q.
        ap (λ ks. list_any (bytes_eq q) (names ks)) put_again ∙ any_inserted q key old.again.keys
        ∙ again_more (bytes_eq q key.now) (list_any (bytes_eq q) (names_in_set old.again)) (count_by (bytes_eq q) keys) (are.again q)
        (as_often q key.now keys true (sym (are.once key.now) ∙ sym (found_by_name key old.once.keys) ∙ stood))
        ∙ ap (nat_lt 1) (sym (count_after q key.now keys));
  }

  -- a new one
  pub stands_first : again.keys ≡ old.again.keys → list_any (is_at (key_cmp key)) old.once.keys ≡ false
      → AreStanding (keys ++ key.now ∷ []) (record { once = once; again = again })
  stands_first same new = record {
    once = stands_once;
    again = λ q.
        ap (λ ks. list_any (bytes_eq q) (names ks)) same
        ∙ not_again (bytes_eq q key.now) (list_any (bytes_eq q) (names_in_set old.again)) (count_by (bytes_eq q) keys) (are.again q)
        (as_often q key.now keys false (sym (are.once key.now) ∙ sym (found_by_name key old.once.keys) ∙ new))
        ∙ ap (nat_lt 1) (sym (count_after q key.now keys));
  }

-- ---- What is found

abbrev pub at_path : Path → List ℕ → RepeatedAt
at_path path key = (path, key)

abbrev pub shown_at : Path → Bor Key → RepeatedAt
shown_at path key = (path, key.now.now)

-- one more
pub one_added : (path : Path) (old new : List RepeatedKey) (found : RepeatedKey) (shown : List (Bor Key)) (key : Bor Key)
    → HasAdded old new (map (shown_at path) shown) → repeated_view found ≡ shown_at path key
    → HasAdded old (new ++ found ∷ []) (map (shown_at path) (shown ++ key ∷ []))
one_added path old new found shown key are is =
    map-append repeated_view new (found ∷ []) ∙ ap (λ seen. seen ++ repeated_view found ∷ []) are
    ∙ append_assoc (map repeated_view old) (map (shown_at path) shown) (repeated_view found ∷ [])
    ∙ ap (λ (r : RepeatedAt). map repeated_view old ++ (map (shown_at path) shown ++ r ∷ [])) is
    ∙ ap (λ seen. map repeated_view old ++ seen) (sym (map-append (shown_at path) shown (key ∷ [])))

all_below : (k : Key) (ks : List Key) → AllByRecursion (λ j. key_cmp k j ≡ Less) ks
    → AllByRecursion (λ j. slice_cmp nat_cmp k.now j ≡ Less) (names ks)
all_below k [] are = are
all_below k (j ∷ ks) are = (are.0, all_below k ks are.1)

sorted_names : (ks : List Key) → IsStrictlySortedBy key_cmp ks → IsStrictlySortedBy (slice_cmp nat_cmp) (names ks)
unfolding IsStrictlySortedBy
sorted_names [] sorted = sorted
sorted_names (k ∷ ks) sorted = (all_below k ks sorted.0, sorted_names ks sorted.1)

from_two : (n : ℕ) → 1 < n → 2 ≤ n
from_two n more = omega arith

above_one : (n : ℕ) → 2 ≤ n → 1 < n
above_one n more = omega arith

are_repeated : (keys : List (List ℕ)) (standing : StandingKeys) → AreStanding keys standing
    → IsStrictlySortedBy key_cmp standing.again.keys → AreRepeated keys (names_in_set standing.again)
are_repeated keys standing are sorted = (
  sorted_names standing.again.keys sorted,
  λ key. (
    λ has. from_two (count_by (bytes_eq key) keys)
        (ltb-true 1 (count_by (bytes_eq key) keys)
        (sym (are.again key) ∙ list_any-from_Contains nat_list_eq_equiv key (names_in_set standing.again) has)),
    λ more. Contains-from_any same_name key (names_in_set standing.again)
        (are.again key ∙ lt-ltb 1 (count_by (bytes_eq key) keys) (above_one (count_by (bytes_eq key) keys) more)),
  ),
)

view_names : (path : Path) (shown : List (Bor Key)) → map (shown_at path) shown ≡ map (at_path path) (names (map deref shown))
view_names path [] = refl
view_names path (k ∷ shown) = ap (λ (rs : List RepeatedAt). shown_at path k ∷ rs) (view_names path shown)

-- all of them
pub all_added : (keys : List (List ℕ)) (standing : StandingKeys) (path : Path) (old new : List RepeatedKey) (shown : List (Bor Key))
    → AreStanding keys standing → IsStrictlySortedBy key_cmp standing.again.keys → map deref shown ≡ standing.again.keys
    → HasAdded old new (map (shown_at path) shown) → IsFoundAgain keys path old new
all_added keys standing path old new shown are sorted all added = (
  names_in_set standing.again,
  are_repeated keys standing are sorted,
  subst (HasAdded old new) (view_names path shown ∙ ap (λ (ks : List Key). map (at_path path) (names ks)) all) added,
)
