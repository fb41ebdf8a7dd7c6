-- The definitions at worked examples.
use Rattle.std.proofs.Common.{◌≡◌, [], ◌∷◌, refl, inl, inr, lit≤, lit<, true, false, replicate}
use Rattle.packed_list.specs.ListBytes.{list_bytes, item_starts, has_high_start, HasShortHeader, HasZeroCount, HasBadStart}
use Rattle.packed_list.specs.Inner.ListReading.{items_in}

-- three items, the second one empty
three_items : list_bytes ((97 ∷ 98 ∷ []) ∷ [] ∷ (99 ∷ 100 ∷ []) ∷ []) ≡ 3 ∷ 0 ∷ 2 ∷ 0 ∷ 2 ∷ 0 ∷ 97 ∷ 98 ∷ 99 ∷ 100 ∷ []
three_items = refl

-- and read again
three_items_again : items_in (3 ∷ 0 ∷ 2 ∷ 0 ∷ 2 ∷ 0 ∷ 97 ∷ 98 ∷ 99 ∷ 100 ∷ []) ≡ (97 ∷ 98 ∷ []) ∷ [] ∷ (99 ∷ 100 ∷ []) ∷ []
unfolding items_in
three_items_again = refl

-- where each of them starts
three_starts : item_starts ((97 ∷ 98 ∷ []) ∷ [] ∷ (99 ∷ 100 ∷ []) ∷ []) ≡ 0 ∷ 2 ∷ 2 ∷ []
three_starts = refl

-- one item without bytes has a count and no start
one_empty_item : list_bytes ([] ∷ []) ≡ 1 ∷ 0 ∷ []
one_empty_item = refl

-- one byte is too short a header
one_byte : HasShortHeader (1 ∷ [])
one_byte = inl refl

-- so is a count of 2 without a start
two_items_and_no_start : HasShortHeader (2 ∷ 0 ∷ [])
two_items_and_no_start = inr (lit≤ tt, lit< tt)

-- and the greatest count without starts
most_items_and_no_start : HasShortHeader (255 ∷ 255 ∷ [])
most_items_and_no_start = inr (lit≤ tt, lit< tt)

-- a count of 0 is none
no_items : HasZeroCount (0 ∷ 0 ∷ [])
no_items = (lit≤ tt, refl)

-- a start above the length of the data is bad
start_behind_end : HasBadStart (2 ∷ 0 ∷ 5 ∷ 0 ∷ 1 ∷ [])
start_behind_end = record { header = lit≤ tt; item = 0; is_item = lit< tt; is_bad = inr (lit< tt) }

-- so is a start below the one before it
falling_start : HasBadStart (3 ∷ 0 ∷ 5 ∷ 0 ∷ 3 ∷ 0 ∷ 97 ∷ 98 ∷ 99 ∷ 100 ∷ 101 ∷ [])
falling_start = record { header = lit≤ tt; item = 1; is_item = lit< tt; is_bad = inl (lit< tt) }

-- 5042 items of 13 bytes have no start above 65535, and 5043 have one
most_relations : has_high_start (replicate 5042 (replicate 13 0)) ≡ false
most_relations = refl

-- and one more has a start that is too high
one_relation_more : has_high_start (replicate 5043 (replicate 13 0)) ≡ true
one_relation_more = refl

-- beginnings of `2,0, 13,0, ..`: three bytes, four, and sixteen
front_3 : HasShortHeader (2 ∷ 0 ∷ 13 ∷ [])
front_3 = inr (lit≤ tt, lit< tt)

-- four bytes: the start is above the length of the data
front_4 : HasBadStart (2 ∷ 0 ∷ 13 ∷ 0 ∷ [])
front_4 = record { header = lit≤ tt; item = 0; is_item = lit< tt; is_bad = inr (lit< tt) }

-- sixteen bytes: so it still is
front_16 : HasBadStart (2 ∷ 0 ∷ 13 ∷ 0 ∷ 193 ∷ 0 ∷ 0 ∷ 0 ∷ 0 ∷ 1 ∷ 0 ∷ 0 ∷ 0 ∷ 1 ∷ 0 ∷ 0 ∷ [])
front_16 = record { header = lit≤ tt; item = 0; is_item = lit< tt; is_bad = inr (lit< tt) }
