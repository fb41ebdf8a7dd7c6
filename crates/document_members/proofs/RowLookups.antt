-- The parents of a document, found by the names of their locales.
use Rattle.std.proofs.Common.{◌≡◌, ◌==◌, ◌&&◌, ℕ, List, [], ◌∷◌, map, Bool, true, false, cond, Option, Some, None, is_some, bytes_eq}
use Rattle.std.proofs.Common.{if◌then◌else◌, refl, sym, ap, ◌∙◌, Vec, Global, Ordering, Less, Equal, Greater, is_eq, nat_cmp}
use Rattle.std.proofs.Common.{◌<◌, ◌≤◌, length, arith}
use Rattle.std.proofs.lemmas.List.{length-map}
use Rattle.std.proofs.lemmas.Map.Text.{is_eq-slice_cmp}
use Rattle.std.proofs.lemmas.Slice.Eq.{bytes_eq-Decides}
use Rattle.std.specs.Prelude.{option_map, option_and_then}
use Rattle.std.specs.BTreeMap.{BTreeMap, Updates, get_by, is_at}
use Rattle.std.specs.Cmp.{eq_by_cmp_equiv}
use Rattle.std.specs.Cmp.Lexicographic.{slice_cmp, nat_list_cmp_total, nat_list_eq_equiv}
use Rattle.std.specs.List.{find}
use Rattle.std.specs.Map.{lookup, AreApart, IsKeyTest, KeepsOthers}
use Rattle.std.specs.Option.{option_flatten, option_or}
use Rattle.std.specs.Ordering.{eq_by_cmp, match_ordering}
use Rattle.serde_json.specs.Data.{Data, Members, no_members, member}
use Rattle.serde_json.specs.Find.{as_str, get_member}
use Rattle.plural_fallback.specs.LocaleNames.{folded, is_same}
use Rattle.plural_fallback.specs.LocalesJson.{keys_of}
use Rattle.document_members.specs.ParentRows.{exact_parent, parent_among, parent_by, text_among}
use Rattle.document_members.specs.Inner.Rows.{AreUpTo, Seen, row_at, row_seen}
use Rattle.document_members.specs.declared.parent_rows.Row.{Row}

abbrev text_of : Seen → Option (List ℕ)
text_of seen = seen.1

-- ---- Names

equal : (a b : List ℕ) → bytes_eq a b ≡ true → a ≡ b
equal a b h = (bytes_eq-Decides a b).0 h

turned : (a b : List ℕ) → bytes_eq a b ≡ bytes_eq b a
turned a b = nat_list_eq_equiv.symm a b

-- names are the same if they are equal once they are folded
pub is_same_folded : (one other : List ℕ) → is_same one other ≡ bytes_eq (map folded one) (map folded other)
is_same_folded [] [] = refl
is_same_folded [] (y ∷ ys) = refl
is_same_folded (x ∷ xs) [] = refl
is_same_folded (x ∷ xs) (y ∷ ys) = ap (λ (b : Bool). (folded x == folded y) && b) (is_same_folded xs ys)

-- ---- A row more

apart : (bs cs ks : List ℕ) → bytes_eq bs cs ≡ false → bytes_eq bs ks ≡ true → bytes_eq cs ks ≡ false
apart bs cs ks n y = turned cs ks ∙ sym (nat_list_eq_equiv.congr bs ks cs y) ∙ n

apart_in_order : (bs cs ks : List ℕ) → bytes_eq bs cs ≡ false → is_eq (slice_cmp nat_cmp bs ks) ≡ true
    → is_eq (slice_cmp nat_cmp cs ks) ≡ false
apart_in_order bs cs ks n y = is_eq-slice_cmp cs ks ∙ apart bs cs ks n (sym (is_eq-slice_cmp bs ks) ∙ y)

other_entries : {K X : Type 0} (eq : K → K → Bool) (test : K → Bool) (old new : List (K × X)) → KeepsOthers eq test old new
    → (other : K → Bool) → IsKeyTest eq other → AreApart test other → lookup other new ≡ lookup other old
unfolding KeepsOthers
other_entries eq test old new h = h

abbrev pub by_items : List ℕ → Vec ℕ Global → Ordering
by_items name key = slice_cmp nat_cmp name key.items

abbrev pub items_cmp : Vec ℕ Global → Vec ℕ Global → Ordering
items_cmp x y = slice_cmp nat_cmp x.items y.items

-- an insertion leaves the rows under other names
others_stay : (old new : BTreeMap (Vec ℕ Global) Row) (name : Vec ℕ Global) (row : Option Row) (other : List ℕ)
    → Updates items_cmp old new name row → bytes_eq name.items other ≡ false → row_at new other ≡ row_at old other
others_stay old new name row other updates differs =
    ap (option_map row_seen)
    (other_entries (eq_by_cmp items_cmp) (is_at (items_cmp name)) old.entries new.entries updates.3 (is_at (by_items other))
    (λ x y. (eq_by_cmp_equiv nat_list_cmp_total).congr other x.items y.items)
    (λ k. apart_in_order name.items other k.items differs))

or_none : {X : Type 0} (o : Option X) → option_or o None ≡ o
or_none None = refl
or_none (Some x) = refl

or_present : {X : Type 0} (o p : Option X) → is_some o ≡ true → o ≡ option_or o p
or_present None p h = absurd cc
or_present (Some x) p h = refl

is_some_map : {X Y : Type 0} (f : X → Y) (o : Option X) → is_some (option_map f o) ≡ is_some o
is_some_map f None = refl
is_some_map f (Some x) = refl

none_map : {X Y : Type 0} (f : X → Y) (o : Option X) → is_some o ≡ false → option_map f o ≡ None
none_map f None h = refl
none_map f (Some x) h = absurd cc

module _ (old : BTreeMap (Vec ℕ Global) Row) (name : Vec ℕ Global) (row : Row) where
  -- if there is a row under the name, all stay as they are
  pub kept : is_some (get_by (by_items name.items) old) ≡ true → (other : List ℕ)
      → row_at old other ≡ option_or (row_at old other) (if bytes_eq other name.items then Some (row_seen row) else None)
  kept there other = by_case (bytes_eq other name.items) refl
    where
      by_case : (b : Bool) → bytes_eq other name.items ≡ b
          → row_at old other ≡ option_or (row_at old other) (if b then Some (row_seen row) else None)
      by_case true e =
          or_present (row_at old other) (Some (row_seen row))
          (ap (λ (n : List ℕ). is_some (row_at old n)) (equal other name.items e)
          ∙ is_some_map row_seen (get_by (by_items name.items) old) ∙ there)
      by_case false e = sym (or_none (row_at old other))

  -- otherwise there is this row more
  pub put : (new : BTreeMap (Vec ℕ Global) Row) → is_some (get_by (by_items name.items) old) ≡ false
      → Updates items_cmp old new name (Some row) → (other : List ℕ)
      → row_at new other ≡ option_or (row_at old other) (if bytes_eq other name.items then Some (row_seen row) else None)
  put new none updates other = by_case (bytes_eq other name.items) refl
    where
      by_case : (b : Bool) → bytes_eq other name.items ≡ b
          → row_at new other ≡ option_or (row_at old other) (if b then Some (row_seen row) else None)
      by_case true e =
          ap (row_at new) (equal other name.items e) ∙ ap (option_map row_seen) updates.1
          ∙ sym (ap (λ (o : Option Seen). option_or o (Some (row_seen row)))
          (ap (row_at old) (equal other name.items e) ∙ none_map row_seen (get_by (by_items name.items) old) none))
      by_case false e =
          others_stay old new name (Some row) other updates (turned name.items other ∙ e) ∙ sym (or_none (row_at old other))

-- an empty map has no rows
pub no_rows : (rows : BTreeMap (Vec ℕ Global) Row) (name : List ℕ) → rows.entries ≡ [] → row_at rows name ≡ None
no_rows rows name empty = ap (λ (es : List (Vec ℕ Global × Row)). option_map row_seen (lookup (is_at (by_items name)) es)) empty

-- a row that was put before the remaining ones
pub before_rest : {X : Type 0} (o : Option X) (b : Bool) (x : X) (rest : Option X)
    → option_or (option_or o (if b then Some x else None)) rest ≡ option_or o (if b then Some x else rest)
before_rest None true x rest = refl
before_rest None false x rest = refl
before_rest (Some y) b x rest = refl

-- ---- Members by their keys

-- the first member whose key passes, if there is one
abbrev pub first_by : (List ℕ → Bool) → Members → Option Seen
first_by test no_members = None
first_by test (member key value members) = if test key then Some (key, as_str value) else first_by test members

-- the text of the first member whose key passes, if there is one
abbrev first_text_by : (List ℕ → Bool) → Members → Option (Option (List ℕ))
first_text_by test no_members = None
first_text_by test (member key value members) = if test key then Some (as_str value) else first_text_by test members

texts : (test : List ℕ → Bool) (members : Members) → option_map text_of (first_by test members) ≡ first_text_by test members
texts test no_members = refl
texts test (member key value members) = by_case (texts test members) (test key)
  where
    by_case : option_map text_of (first_by test members) ≡ first_text_by test members → (b : Bool)
        → option_map text_of (if b then Some (key, as_str value) else first_by test members)
        ≡ (if b then Some (as_str value) else first_text_by test members)
    by_case later true = refl
    by_case later false = later

same_tests : (t u : List ℕ → Bool) → ((key : List ℕ) → t key ≡ u key) → (members : Members)
    → first_text_by t members ≡ first_text_by u members
same_tests t u same no_members = refl
same_tests t u same (member key value members) = rw (same key, same_tests t u same members) refl

picks : {X : Type 0} (o : Ordering) (b : Bool) (x y : X) → is_eq o ≡ b → match_ordering o y x y ≡ (if b then x else y)
picks Less b x y h = rw (sym h) refl
picks Equal b x y h = rw (sym h) refl
picks Greater b x y h = rw (sym h) refl

-- the text under a key, by the first member
text_first : (k key : List ℕ) (value : Data) (members : Members)
    → text_among (member key value members) k ≡ (if bytes_eq k key then as_str value else text_among members k)
text_first k key value members =
    ap (option_and_then as_str)
    (picks (slice_cmp nat_cmp k key) (bytes_eq k key) (Some value) (get_member k members) (is_eq-slice_cmp k key))
    ∙ by_case (bytes_eq k key)
  where
    by_case : (b : Bool) → option_and_then as_str (if b then Some value else get_member k members)
        ≡ (if b then as_str value else text_among members k)
    by_case true = refl
    by_case false = refl

-- a key that is found passes
passes : (test : List ℕ → Bool) (keys : List (List ℕ)) (k : List ℕ) → find test keys ≡ Some k → test k ≡ true
passes test [] k h = absurd cc
passes test (key ∷ keys) k h = by_case (λ later. passes test keys k later) (test key) refl h
  where
    by_case : (find test keys ≡ Some k → test k ≡ true) → (b : Bool) → test key ≡ b → cond b (Some key) (find test keys) ≡ Some k
        → test k ≡ true
    by_case later true e found = let same : key ≡ k = cc in ap test (sym same) ∙ e
    by_case later false e found = later found

-- the first member that passes has the text under the first key that passes
first_text : (test : List ℕ → Bool) (members : Members)
    → first_text_by test members ≡ option_map (text_among members) (find test (keys_of members))
first_text test no_members = refl
first_text test (member key value members) = by_case (first_text test members) (test key) refl
  where
    further : (o : Option (List ℕ)) → test key ≡ false → ((k : List ℕ) → o ≡ Some k → test k ≡ true)
        → option_map (text_among members) o ≡ option_map (text_among (member key value members)) o
    further None fails found = refl
    further (Some k) fails found = ap (λ (t : Option (List ℕ)). Some t) (sym (text_first k key value members ∙ other (bytes_eq k key) refl))
      where
        other : (b : Bool) → bytes_eq k key ≡ b → (if b then as_str value else text_among members k) ≡ text_among members k
        other true e = absurd (let f : true ≡ false = sym (found k refl) ∙ ap test (equal k key e) ∙ fails in cc)
        other false e = refl

    by_case : first_text_by test members ≡ option_map (text_among members) (find test (keys_of members)) → (b : Bool) → test key ≡ b
        → (if b then Some (as_str value) else first_text_by test members)
        ≡ option_map (text_among (member key value members)) (cond b (Some key) (find test (keys_of members)))
    by_case rest true e =
        ap (λ (t : Option (List ℕ)). Some t)
        (sym (text_first key key value members
        ∙ ap (λ (b : Bool). if b then as_str value else text_among members key) ((bytes_eq-Decides key key).1 refl)))
    by_case rest false e =
        rest ∙ further (find test (keys_of members)) e (λ k. passes test (keys_of members) k)

joined : {X : Type 0} (f : List ℕ → Option X) (a b : Option (List ℕ))
    → option_flatten (option_or (option_map f a) (option_or (option_map f b) (Some None))) ≡ option_and_then f (option_or a b)
joined f None None = refl
joined f None (Some k) = refl
joined f (Some k) b = refl

-- the exact name first, then the folded one: this is the text under the locale's key
pub parent_found : (members : Members) (locale : List ℕ)
    → option_flatten (option_or (first_text_by (λ key. bytes_eq locale key) members)
    (option_or (first_text_by (λ key. bytes_eq (map folded locale) (map folded key)) members) (Some None)))
    ≡ parent_among members locale
parent_found members locale =
    let exact = first_text (λ key. bytes_eq locale key) members in
    let same =
    same_tests (λ key. bytes_eq (map folded locale) (map folded key)) (λ key. is_same locale key)
    (λ key. sym (is_same_folded locale key)) members
    ∙ first_text (λ key. is_same locale key) members in
    rw (exact, same)
    (joined (text_among members) (find (λ key. bytes_eq locale key) (keys_of members))
    (find (λ key. is_same locale key) (keys_of members)))

-- ---- Member by member

-- the row of exactly this name
abbrev exact_of : List ℕ → Option Seen → Option Seen → Option Seen
exact_of locale None exact = None
exact_of locale (Some row) exact = if bytes_eq row.0 locale then Some row else exact

-- the rows under a locale's folded and exact name, and the first ones of the remaining members, are
-- the first ones of all
pub record Holds (locale : List ℕ) (same exact left_same left_exact all_same all_exact : Option Seen) : Type 0 where
  pub same_is : option_or same left_same ≡ all_same
  pub exact_is : option_or (exact_of locale same exact) left_exact ≡ all_exact
  pub none : same ≡ None → exact ≡ None

moved : (locale : List ℕ) (same exact new_same new_exact left_same left_exact all_same all_exact : Option Seen)
    → new_same ≡ same → new_exact ≡ exact → Holds locale same exact left_same left_exact all_same all_exact
    → Holds locale new_same new_exact left_same left_exact all_same all_exact
moved locale same exact new_same new_exact left_same left_exact all_same all_exact is also h = record {
  same_is = ap (λ (o : Option Seen). option_or o left_same) is ∙ h.same_is;
  exact_is =
      ap (λ (o : Option Seen). option_or (exact_of locale o new_exact) left_exact) is
      ∙ ap (λ (o : Option Seen). option_or (exact_of locale same o) left_exact) also
      ∙ h.exact_is;
  none = λ n. also ∙ h.none (sym is ∙ n);
}

module _ (locale : List ℕ) (row : Seen) (at rest_same rest_exact all_same all_exact : Option Seen) where
  -- the exact row after a member
  abbrev exact_after : Option Seen → Bool → Option Seen
  exact_after exact is_exact = if is_some at then option_or exact (if is_exact then Some row else None) else exact

  unchanged : (exact : Option Seen) → exact_after exact false ≡ exact
  unchanged exact = by_case (is_some at)
    where
      by_case : (b : Bool) → (if b then option_or exact None else exact) ≡ exact
      by_case true = or_none exact
      by_case false = refl

  -- the member has the same folded name
  alike : (is_exact : Bool) (same exact : Option Seen) → bytes_eq row.0 locale ≡ is_exact → at ≡ same
      → Holds locale same exact (Some row) (if is_exact then Some row else rest_exact) all_same all_exact
      → Holds locale (option_or same (Some row)) (exact_after exact is_exact) rest_same rest_exact all_same all_exact
  alike is_exact None exact named there h =
      let none : exact_after exact is_exact ≡ None =
      ap (λ (o : Option Seen). if is_some o then option_or exact (if is_exact then Some row else None) else exact) there
      ∙ h.none refl in record {
        same_is = h.same_is;
        exact_is =
            ap (λ (o : Option Seen). option_or (exact_of locale (Some row) o) rest_exact) none
            ∙ ap (λ (b : Bool). option_or (if b then Some row else None) rest_exact) named
            ∙ before_rest None is_exact row rest_exact
            ∙ h.exact_is;
        none = λ n. absurd cc;
      }
  alike is_exact (Some first) exact named there h =
      let more : exact_after exact is_exact ≡ option_or exact (if is_exact then Some row else None) =
      ap (λ (o : Option Seen). if is_some o then option_or exact (if is_exact then Some row else None) else exact) there in record {
        same_is = h.same_is;
        exact_is =
            ap (λ (o : Option Seen). option_or (exact_of locale (Some first) o) rest_exact) more
            ∙ by_case (bytes_eq first.0 locale)
            ∙ h.exact_is;
        none = λ n. absurd cc;
      }
    where
      by_case : (b : Bool)
          → option_or (if b then Some first else option_or exact (if is_exact then Some row else None)) rest_exact
          ≡ option_or (if b then Some first else exact) (if is_exact then Some row else rest_exact)
      by_case true = refl
      by_case false = before_rest exact is_exact row rest_exact

  -- after any member
  pub further : (is_same is_exact : Bool) (same exact new_same new_exact : Option Seen) → (is_exact ≡ true → is_same ≡ true)
      → bytes_eq row.0 locale ≡ is_exact → (is_same ≡ true → at ≡ same)
      → new_same ≡ option_or same (if is_same then Some row else None) → new_exact ≡ exact_after exact is_exact
      → Holds locale same exact (if is_same then Some row else rest_same) (if is_exact then Some row else rest_exact) all_same all_exact
      → Holds locale new_same new_exact rest_same rest_exact all_same all_exact
  further true is_exact same exact new_same new_exact only named there is also h =
      moved locale (option_or same (Some row)) (exact_after exact is_exact) new_same new_exact rest_same rest_exact all_same all_exact is
      also (alike is_exact same exact named (there refl) h)
  further false true same exact new_same new_exact only named there is also h = absurd (let f : false ≡ true = only refl in cc)
  further false false same exact new_same new_exact only named there is also h =
      moved locale same exact new_same new_exact rest_same rest_exact all_same all_exact (is ∙ or_none same) (also ∙ unchanged exact) h

-- the parent, by the rows of all
parent_is : (locale : List ℕ) (same exact all_same all_exact : Option Seen) → Holds locale same exact None None all_same all_exact
    → parent_by None locale same exact
    ≡ option_flatten (option_or (option_map text_of all_exact) (option_or (option_map text_of all_same) (Some None)))
parent_is locale None exact all_same all_exact h = rw (sym h.same_is, sym h.exact_is) refl
parent_is locale (Some row) exact all_same all_exact h =
    by_case (bytes_eq row.0 locale) exact
    ∙ ap (λ (o : Option Seen). option_flatten (option_or (option_map text_of o) (Some row.1))) h.exact_is
    ∙ ap (λ (o : Option Seen). option_flatten (option_or (option_map text_of all_exact) (option_or (option_map text_of o) (Some None))))
    h.same_is
  where
    by_case : (b : Bool) (o : Option Seen) → (if b then row.1 else exact_parent row.1 o)
        ≡ option_flatten (option_or (option_map text_of (option_or (if b then Some row else o) None)) (Some row.1))
    by_case true o = refl
    by_case false None = refl
    by_case false (Some other) = refl

-- so the rows name the parent
pub parent_of_rows : (members : Members) (locale : List ℕ) (same exact : Option Seen)
    → Holds locale same exact None None (first_by (λ key. bytes_eq (map folded locale) (map folded key)) members)
    (first_by (λ key. bytes_eq locale key) members)
    → parent_by None locale same exact ≡ parent_among members locale
parent_of_rows members locale same exact h =
    parent_is locale same exact (first_by (λ key. bytes_eq (map folded locale) (map folded key)) members)
    (first_by (λ key. bytes_eq locale key) members) h
    ∙ ap (λ (o : Option (Option (List ℕ))).
    option_flatten (option_or o (option_or (option_map text_of (first_by (λ key. bytes_eq (map folded locale) (map folded key)) members))
    (Some None)))) (texts (λ key. bytes_eq locale key) members)
    ∙ ap (λ (o : Option (Option (List ℕ))).
    option_flatten (option_or (first_text_by (λ key. bytes_eq locale key) members) (option_or o (Some None))))
    (texts (λ key. bytes_eq (map folded locale) (map folded key)) members)
    ∙ parent_found members locale

-- what the rows so far and the remaining members say of a locale
abbrev pub Rows : (List ℕ → Option Seen) → (List ℕ → Option Seen) → Members → Members → List ℕ → Type 0
Rows same exact left all locale =
    Holds locale (same (map folded locale)) (exact locale) (first_by (λ key. bytes_eq (map folded locale) (map folded key)) left)
    (first_by (λ key. bytes_eq locale key) left) (first_by (λ key. bytes_eq (map folded locale) (map folded key)) all)
    (first_by (λ key. bytes_eq locale key) all)

-- the rows after a member, by what was put
pub next_rows : (members : Members) (key : List ℕ) (value : Data) (left : Members) (locale : List ℕ)
    (same exact new_same new_exact : List ℕ → Option Seen)
    → ((name : List ℕ) → new_same name ≡ option_or (same name) (if bytes_eq name (map folded key) then Some (key, as_str value) else None))
    → ((name : List ℕ) → new_exact name
    ≡ (if is_some (same (map folded key)) then option_or (exact name) (if bytes_eq name key then Some (key, as_str value) else None)
    else exact name))
    → Rows same exact (member key value left) members locale → Rows new_same new_exact left members locale
next_rows members key value left locale same exact new_same new_exact is also h =
    further locale (key, as_str value) (same (map folded key)) (first_by (λ k. bytes_eq (map folded locale) (map folded k)) left)
    (first_by (λ k. bytes_eq locale k) left) (first_by (λ k. bytes_eq (map folded locale) (map folded k)) members)
    (first_by (λ k. bytes_eq locale k) members) (bytes_eq (map folded locale) (map folded key)) (bytes_eq locale key)
    (same (map folded locale)) (exact locale) (new_same (map folded locale)) (new_exact locale)
    (λ e. (bytes_eq-Decides (map folded locale) (map folded key)).1 (ap (map folded) (equal locale key e)))
    (turned key locale) (λ e. ap same (sym (equal (map folded locale) (map folded key) e))) (is (map folded locale)) (also locale) h

abbrev seen : List ℕ → Option (List ℕ) → Seen
seen name parent = (name, parent)

-- the same by the name and the text that were put
pub rows_put : (members : Members) (key : List ℕ) (value : Data) (left : Members) (locale name : List ℕ) (text : Option (List ℕ))
    (same exact new_same new_exact : List ℕ → Option Seen) → name ≡ key → text ≡ as_str value
    → ((other : List ℕ) → new_same other
    ≡ option_or (same other) (if bytes_eq other (map folded name) then Some (seen name text) else None))
    → ((other : List ℕ) → new_exact other
    ≡ (if is_some (same (map folded name)) then option_or (exact other) (if bytes_eq other name then Some (seen name text) else None)
    else exact other))
    → Rows same exact (member key value left) members locale → Rows new_same new_exact left members locale
rows_put members key value left locale name text same exact new_same new_exact named told is also =
    next_rows members key value left locale same exact new_same new_exact
    (λ other. is other
    ∙ ap (λ (k : List ℕ). option_or (same other) (if bytes_eq other (map folded k) then Some (seen k text) else None)) named
    ∙ ap (λ (t : Option (List ℕ)). option_or (same other) (if bytes_eq other (map folded key) then Some (seen key t) else None)) told)
    (λ other. also other
    ∙ ap (λ (k : List ℕ).
    if is_some (same (map folded k)) then option_or (exact other) (if bytes_eq other k then Some (seen k text) else None)
    else exact other) named
    ∙ ap (λ (t : Option (List ℕ)).
    if is_some (same (map folded key)) then option_or (exact other) (if bytes_eq other key then Some (seen key t) else None)
    else exact other) told)

-- at first there are no rows
pub no_rows_yet : (all left : Members) (locale : List ℕ) (same exact : List ℕ → Option Seen) → left ≡ all
    → ((name : List ℕ) → same name ≡ None) → ((name : List ℕ) → exact name ≡ None) → Rows same exact left all locale
no_rows_yet all left locale same exact is none also =
    moved locale None None (same (map folded locale)) (exact locale) _ _ _ _ (none (map folded locale)) (also locale) record {
      same_is = ap (first_by (λ k. bytes_eq (map folded locale) (map folded k))) is;
      exact_is = ap (first_by (λ k. bytes_eq locale k)) is;
      none = λ n. refl;
    }

-- ---- The most bytes of a name

-- a row more, whose name is no longer
pub up_to_put : (most more : ℕ) (key : List ℕ) (row : Seen) (old new : List ℕ → Option Seen) → AreUpTo most old → most ≤ more
    → length key ≤ more
    → ((name : List ℕ) → new name ≡ option_or (old name) (if bytes_eq name (map folded key) then Some row else None))
    → AreUpTo more new
up_to_put most more key row old new up_to wider within is = λ name long.
    let before : old name ≡ None = up_to name (omega arith) in
    is name
    ∙ ap (λ (o : Option Seen). option_or o (if bytes_eq name (map folded key) then Some row else None)) before
    ∙ ap (λ (b : Bool). if b then Some row else None) (by_case name long (bytes_eq name (map folded key)) refl)
  where
    by_case : (name : List ℕ) → more < length name → (b : Bool) → bytes_eq name (map folded key) ≡ b
        → bytes_eq name (map folded key) ≡ false
    by_case name long true e =
        let same : length name ≡ length key = ap length (equal name (map folded key) e) ∙ length-map key folded in
        absurd (let less : length key < length key = omega (arith, same) in omega arith)
    by_case name long false e = e
