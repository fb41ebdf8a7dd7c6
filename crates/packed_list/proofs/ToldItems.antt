-- Items that are told from the last to the first.
use Rattle.std.proofs.Common.{◌≡◌, ℕ, zero, suc, ◌+◌, ◌-◌, ◌*◌, ◌<◌, ◌≤◌, List, [], ◌∷◌, length, drop, refl, sym, ap, ◌∙◌, arith}
use Rattle.std.proofs.Common.{Bool, true, false, Some, subst, length-drop}
use Rattle.std.proofs.lemmas.List.{take_all}
use Rattle.std.proofs.lemmas.Option.{slice_get_past}
use Rattle.std.specs.List.{concat, list_all, slice_range}
use Rattle.std.specs.Prelude.{◌&&◌, slice_get, unwrap_or}
use Rattle.packed_list.specs.ListBytes.{ListBytes, item_starts, two_byte_number}
use Rattle.packed_list.specs.Inner.ListReading.{numbers, pieces_from, items_in}
use Rattle.packed_list.proofs.Accepted.{Passes, Rises, drop-pair}
use Rattle.packed_list.proofs.ListPlaces.{IsPart, item_is, count_is, data_is, length-item_starts, start_is}

-- where the items behind the one at a place start, as the bytes of a list of n items say
abbrev pub starts_behind : List ℕ → ℕ → ℕ → List ℕ
starts_behind bytes n place = numbers (n - 1 - place) (drop (2 * suc place) bytes)

-- behind the last item none starts
pub none_behind : (bytes : List ℕ) (n : ℕ) → starts_behind bytes n (n - 1) ≡ []
none_behind bytes n = let z : n - 1 - (n - 1) ≡ 0 = omega arith in ap (λ k. numbers k (drop (2 * suc (n - 1)) bytes)) z

-- behind an item but the last the next one starts
pub next_behind : (bytes : List ℕ) (n place : ℕ) → 0 < place → place < n → 2 * n ≤ length bytes
    → starts_behind bytes n (place - 1) ≡ two_byte_number bytes (2 * place) ∷ starts_behind bytes n place
next_behind bytes n place pos below fits =
    let m : n - 1 - (place - 1) ≡ suc (n - 1 - place) = omega arith in
    let k : 2 * suc (place - 1) ≡ 2 * place = omega arith in
    let e : 2 * place + 2 ≡ 2 * suc place = omega arith in
    let d = drop-pair bytes (2 * place) (omega arith) in
    rw (m, k, d, e) refl

-- the bytes from a place up to the end are those from there on
pub up_to_end : (bytes : List ℕ) (from : ℕ) → slice_range bytes from (length bytes) ≡ drop from bytes
up_to_end bytes from = take_all (length bytes - from) (drop from bytes) (omega (arith, length-drop from bytes))

-- what was told of the items behind a place, if the one at the place goes up to an end: from each place on they rise, and pass if
-- the first one does
pub record Told (p : List ℕ → Bool) (content starts : List ℕ) (end : ℕ) : Type 0 where
  pub within : end ≤ length content
  pub rises : (from : ℕ) → from ≤ end → Rises from starts (length content)
  pub pass : (from : ℕ) → from ≤ end → list_all p (pieces_from from starts content) ≡ p (slice_range content from end)

-- a test and nothing more
and_true : (b : Bool) → (b && true) ≡ b
and_true true = refl
and_true false = refl

-- of the last item nothing has to be told
pub told_last : (p : List ℕ → Bool) (content starts : List ℕ) → starts ≡ [] → Told p content starts (length content)
told_last p content starts none = record {
  within = omega arith;
  rises = λ from h. rw none h;
  pass = λ from h. rw (none, up_to_end content from) (and_true (p (drop from content)));
}

-- an item that passes is told with those behind it
pub told_more : (p : List ℕ → Bool) (content starts others : List ℕ) (start end : ℕ) → Told p content starts end → start ≤ end
    → p (slice_range content start end) ≡ true → others ≡ start ∷ starts → Told p content others start
told_more p content starts others start end told h passes same = record {
  within = omega (arith, told.within);
  rises = λ from g. rw same (g, told.rises start h);
  pass = λ from g. rw (same, told.pass start h ∙ passes) (and_true (p (slice_range content from start)));
}

-- the items of bytes that aren't empty
pub items_cut : (bytes : List ℕ) → 0 < length bytes
    → items_in bytes ≡ pieces_from 0 (starts_behind bytes (two_byte_number bytes 0) 0) (drop (2 * two_byte_number bytes 0) bytes)
unfolding items_in
items_cut [] h = absurd (omega arith)
items_cut (byte ∷ bytes) h =
    let all : List ℕ = byte ∷ bytes in
    let n : ℕ = two_byte_number all 0 in
    let e : n - 1 ≡ n - 1 - 0 = omega arith in
    ap (λ k. pieces_from 0 (numbers k (drop 2 all)) (drop (2 * n) all)) e

-- bytes of which all items behind the first one were told pass the test of lists
pub told_starts : (p : List ℕ → Bool) (bytes content : List ℕ) (n end : ℕ) → n ≡ two_byte_number bytes 0 → 0 < n
    → 2 * n ≤ length bytes → content ≡ drop (2 * n) bytes → Told p content (starts_behind bytes n 0) end → Passes bytes
told_starts p bytes content n end count some fits holds told =
    let m : n - 1 - 0 ≡ two_byte_number bytes 0 - 1 = omega (arith, count) in
    let e : length content ≡ length bytes - 2 * two_byte_number bytes 0 =
    ap length holds ∙ length-drop (2 * n) bytes ∙ ap (λ k. length bytes - 2 * k) count in
    record {
      two = omega (arith, some, fits);
      some = omega (arith, some, count);
      header = omega (arith, fits, count);
      rises = subst (λ k. Rises 0 (numbers (two_byte_number bytes 0 - 1) (drop 2 bytes)) k) e
          (subst (λ k. Rises 0 (numbers k (drop 2 bytes)) (length content)) m (told.rises 0 (omega arith)));
    }

-- and their items pass if the first one does
pub told_items : (p : List ℕ → Bool) (bytes content : List ℕ) (n end : ℕ) → n ≡ two_byte_number bytes 0 → 0 < length bytes
    → content ≡ drop (2 * n) bytes → Told p content (starts_behind bytes n 0) end
    → list_all p (items_in bytes) ≡ p (slice_range content 0 end)
told_items p bytes content n end count some holds told =
    ap (list_all p) (items_cut bytes some
    ∙ sym (ap (λ k. pieces_from 0 (starts_behind bytes k 0) (drop (2 * k) bytes)) count)
    ∙ ap (pieces_from 0 (starts_behind bytes n 0)) (sym holds))
    ∙ told.pass 0 (omega arith)

-- the data are the items of each list of these bytes
pub content_is : (bytes content : List ℕ) (n : ℕ) → n ≡ two_byte_number bytes 0 → content ≡ drop (2 * n) bytes
    → (items : List (List ℕ)) → ListBytes items bytes → content ≡ concat items
content_is bytes content n count holds items h =
    let c : n ≡ length items = omega (arith, count, count_is items bytes h.spelled) in
    holds ∙ ap (λ k. drop (2 * k) bytes) c ∙ data_is items bytes h.spelled

-- where the item at a place ends, in each list of these bytes
abbrev pub EndsAt : List ℕ → ℕ → ℕ → Type 0
EndsAt bytes place end = (items : List (List ℕ)) → ListBytes items bytes
    → end ≡ unwrap_or (slice_get (item_starts items) (place + 1)) (length (concat items))

-- the last item ends with the data
pub ends_last : (bytes content : List ℕ) (n : ℕ) → n ≡ two_byte_number bytes 0 → 0 < n → content ≡ drop (2 * n) bytes
    → EndsAt bytes (n - 1) (length content)
ends_last bytes content n count some holds items h =
    let c : n ≡ length items = omega (arith, count, count_is items bytes h.spelled) in
    let past : length (item_starts items) ≤ (n - 1) + 1 = omega (arith, c, length-item_starts items) in
    ap length (content_is bytes content n count holds items h)
    ∙ sym (ap (λ o. unwrap_or o (length (concat items))) (slice_get_past (item_starts items) ((n - 1) + 1) past))

-- an item ends where the next one starts
pub ends_before : (bytes : List ℕ) (n place : ℕ) → n ≡ two_byte_number bytes 0 → 0 < place → place < n
    → EndsAt bytes (place - 1) (two_byte_number bytes (2 * place))
ends_before bytes n place count pos below items h =
    let e : (place - 1) + 1 ≡ place = omega arith in
    let l : place < length items = omega (arith, count, count_is items bytes h.spelled) in
    sym (ap (λ k. unwrap_or (slice_get (item_starts items) k) (length (concat items))) e
    ∙ ap (λ o. unwrap_or o (length (concat items))) (start_is items bytes h.spelled place pos l))

-- the part of the data in which an item of a list is
pub part_of : (bytes : List ℕ) (n place end : ℕ) → n ≡ two_byte_number bytes 0 → 0 < place → place < n → EndsAt bytes place end
    → (items : List (List ℕ)) → ListBytes items bytes → IsPart items place (two_byte_number bytes (2 * place)) end
part_of bytes n place end count pos below ends items h =
    let l : place < length items = omega (arith, count, count_is items bytes h.spelled) in
    item_is items place (two_byte_number bytes (2 * place)) end l (start_is items bytes h.spelled place pos l) (ends items h)

-- a bad item is one of the items
pub not_all : (p : List ℕ → Bool) (items : List (List ℕ)) (k : ℕ) (item : List ℕ) → slice_get items k ≡ Some item → p item ≡ false
    → list_all p items ≡ false
not_all p [] k item e bad = cc
not_all p (x ∷ items) zero item e bad = let same : x ≡ item = cc in rw (ap p same ∙ bad) refl
not_all p (x ∷ items) (suc k) item e bad = both (p x) (list_all p items) (not_all p items k item e bad)
  where
    both : (a b : Bool) → b ≡ false → (a && b) ≡ false
    both true b h = h
    both false b h = refl
