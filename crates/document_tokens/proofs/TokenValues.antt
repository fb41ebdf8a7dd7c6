-- The tokens of a value are read as that value.
use Rattle.std.proofs.Common.{◌≡◌, ℕ, suc, ◌-◌, ◌<◌, ◌≤◌, List, [], ◌∷◌, ◌++◌, length, Some, None, refl, ap, subst, ◌∙◌, arith}
use Rattle.std.specs.Prelude.{max}
use Rattle.json.specs.Json.{Json, null, boolean, number, string, array, object, Items, no_items, item, Members, no_members, member, after_end_array, items, members, parse_map, value}
use Rattle.json.specs.Token.{Token}
use Rattle.json.specs.Tree.{depth, items_depth, items_tokens, json_tokens, members_depth, members_tokens}
use Rattle.json.proofs.Grammar.{value_is, value-begin_array, value-begin_object, items_end, items_more, members_end, members_more}
use Rattle.document_tokens.proofs.OpenLemmas.{joined}

more_by_one : (m n : ℕ) → m ≤ n → m ≤ suc n
more_by_one m n less = omega arith

below_one : (m n : ℕ) → m ≤ n → m < suc n
below_one m n less = omega arith

begins_no_end : (v : Json) (ts : List Token) → after_end_array (json_tokens v ++ ts) ≡ None
begins_no_end null ts = refl
begins_no_end (boolean b) ts = refl
begins_no_end (number s) ts = refl
begins_no_end (string s) ts = refl
begins_no_end (array vs) ts = refl
begins_no_end (object pairs) ts = refl

more_than : (one two : List Token) → length two ≤ length (one ++ two)
more_than [] two = omega arith
more_than (t ∷ one) two = more_by_one (length two) (length (one ++ two)) (more_than one two)

has_token : (v : Json) (ts : List Token) → length ts < length (json_tokens v ++ ts)
has_token null ts = omega arith
has_token (boolean b) ts = omega arith
has_token (number s) ts = omega arith
has_token (string s) ts = omega arith
has_token (array vs) ts = below_one (length ts) (length (items_tokens vs ++ ts)) (more_than (items_tokens vs) ts)
has_token (object pairs) ts = below_one (length ts) (length (members_tokens pairs ++ ts)) (more_than (members_tokens pairs) ts)

some_room : (m k n : ℕ) → m < k → k ≤ n → 0 < n
some_room m k n less room = omega arith

room_left : (m k n : ℕ) → m < k → k ≤ n → m ≤ n - 1
room_left m k n less room = omega arith

some_left : (m n : ℕ) → suc m ≤ n → 0 < n
some_left m n room = omega arith

left_over : (m k n : ℕ) → m < k → suc k ≤ n → m ≤ n - 1
left_over m k n less room = omega arith

both : (one two n : ℕ) → max one two ≤ n → (one ≤ n) × (two ≤ n)
both one two n is = (grind arith, grind arith)

mutual
  pub value_back : (v : Json) (most : ℕ) (rest : List Token) → depth v ≤ most → value most (json_tokens v ++ rest) ≡ Some (v, rest)
  value_back null most rest nests = value_is most (Token.null ∷ rest)
  value_back (boolean b) most rest nests = value_is most (Token.boolean b ∷ rest)
  value_back (number s) most rest nests = value_is most (Token.number s ∷ rest)
  value_back (string s) most rest nests = value_is most (Token.string s ∷ rest)
  value_back (array vs) most rest nests =
      value-begin_array most (items_tokens vs ++ rest) (omega arith)
      ∙ ap (parse_map array) (items_back vs (most - 1) (length (items_tokens vs ++ rest)) rest (omega arith) (omega arith))
  value_back (object pairs) most rest nests =
      value-begin_object most (members_tokens pairs ++ rest) (omega arith)
      ∙ ap (parse_map object) (members_back pairs (most - 1) (length (members_tokens pairs ++ rest)) rest (omega arith) (omega arith))

  items_back : (vs : Items) (most n : ℕ) (rest : List Token) → items_depth vs ≤ most → length (items_tokens vs ++ rest) ≤ n
      → items (value most) n (items_tokens vs ++ rest) ≡ Some (vs, rest)
  items_back no_items most n rest nests room = items_end (value most) n (Token.end_array ∷ rest) rest room refl
  items_back (item v vs) most n rest nests room =
      let deep = both (depth v) (items_depth vs) most nests in
      let others = items_tokens vs ++ rest in
      let same = joined (json_tokens v) (items_tokens vs) rest in
      let longer = has_token v others in
      let fits = subst (λ (k : ℕ). k ≤ n) (ap length same) room in
      ap (items (value most) n) same
      ∙ items_more (value most) n (json_tokens v ++ others) others v
      (some_room (length others) (length (json_tokens v ++ others)) n longer fits)
      (begins_no_end v others) (value_back v most others deep.0)
      ∙ ap (parse_map (item v))
      (items_back vs most (n - 1) rest deep.1 (room_left (length others) (length (json_tokens v ++ others)) n longer fits))

  members_back : (pairs : Members) (most n : ℕ) (rest : List Token) → members_depth pairs ≤ most → length (members_tokens pairs ++ rest) ≤ n
      → members (value most) n (members_tokens pairs ++ rest) ≡ Some (pairs, rest)
  members_back no_members most n rest nests room = members_end (value most) n (Token.end_object ∷ rest) rest room refl
  members_back (member k v pairs) most n rest nests room =
      let deep = both (depth v) (members_depth pairs) most nests in
      let others = members_tokens pairs ++ rest in
      let same = joined (json_tokens v) (members_tokens pairs) rest in
      let longer = has_token v others in
      let fits = subst (λ (k : ℕ). suc k ≤ n) (ap length same) room in
      ap (λ ts. members (value most) n (Token.key k ∷ ts)) same
      ∙ members_more (value most) n k (Token.key k ∷ (json_tokens v ++ others)) (json_tokens v ++ others) others v
      (some_left (length (json_tokens v ++ others)) n fits) refl (value_back v most others deep.0)
      ∙ ap (parse_map (member k v))
      (members_back pairs most (n - 1) rest deep.1 (left_over (length others) (length (json_tokens v ++ others)) n longer fits))
