-- Keys that are similar to a language.
use Rattle.std.proofs.Common.{◌≡◌, ℕ, suc, ◌-◌, ◌<◌, ◌≤◌, List, [], ◌∷◌, ◌++◌, Bool, true, false, get_or, length, map, take}
use Rattle.std.proofs.Common.{take_all, drop, refl, sym, ap, ◌∙◌, arith}
use Rattle.std.specs.Prelude.{◌==◌, ◌&&◌, ◌||◌, filter, if◌then◌else◌}
use Rattle.std.specs.List.{list_any}
use Rattle.std.proofs.Math.Bool.{and-false, and-true, or-false}
use Rattle.std.proofs.Math.Dec.{eqb, eqb-suc-suc, eqb-suc-zero}
use Rattle.plural_fallback.specs.LocaleNames.{folded, is_same}
use Rattle.form_commands.specs.Inner.SimilarSteps.{is_like, similar_key_list, told_in}
use Rattle.form_commands.specs.SimilarKeys.{first_three, is_one_edit, is_one_longer, is_one_replaced, is_one_shorter, without_one}
use Rattle.form_commands.specs.declared.similar_keys.Likeness.{Likeness}
use Rattle.form_commands.specs.declared.similar_keys.SimilarKeys.{SimilarKeys}
use Rattle.form_commands.specs.declared.similar_keys.SimilarKeys.TheVariants.{Nothing, One, Two, Three}

-- ---- Tests

distributes : (x p q : Bool) → ((x && p) || (x && q)) ≡ (x && (p || q))
distributes true p q = refl
distributes false p q = refl

absorbed : (p q : Bool) → (p ≡ true → q ≡ true) → (p || q) ≡ q
absorbed true q follows = sym (follows refl)
absorbed false q follows = refl

second_so : (x p : Bool) → (x && p) ≡ true → p ≡ true
second_so true p both = both
second_so false p both = let never : false ≡ true = both in absurd (cc)

or_true : (p q : Bool) → p ≡ true → (p || q) ≡ true
or_true p q is = rw is refl

-- ---- One edit

-- two bytes are the same
abbrev alike : ℕ → ℕ → Bool
alike a b = folded a == folded b

module _ (a b : ℕ) where
  longer_behind : (others : List ℕ) (lefts : List (List ℕ))
      → list_any (λ left. is_same left (b ∷ others)) (map (λ left. a ∷ left) lefts)
      ≡ (alike a b && list_any (λ left. is_same left others) lefts)
  longer_behind others [] = sym (and-false (alike a b))
  longer_behind others (left ∷ lefts) =
      ap (λ (r : Bool). (alike a b && is_same left others) || r) (longer_behind others lefts)
      ∙ distributes (alike a b) (is_same left others) (list_any (λ left. is_same left others) lefts)

  shorter_behind : (ones : List ℕ) (lefts : List (List ℕ))
      → list_any (λ left. is_same (a ∷ ones) left) (map (λ left. b ∷ left) lefts)
      ≡ (alike a b && list_any (λ left. is_same ones left) lefts)
  shorter_behind ones [] = sym (and-false (alike a b))
  shorter_behind ones (left ∷ lefts) =
      ap (λ (r : Bool). (alike a b && is_same ones left) || r) (shorter_behind ones lefts)
      ∙ distributes (alike a b) (is_same ones left) (list_any (λ left. is_same ones left) lefts)

  -- ---- Behind two first bytes

  longer_from : (ones others : List ℕ)
      → is_one_longer (a ∷ ones) (b ∷ others) ≡ (is_same ones (b ∷ others) || (alike a b && is_one_longer ones others))
  longer_from ones others = ap (λ (r : Bool). is_same ones (b ∷ others) || r) (longer_behind others (without_one ones))

  shorter_from : (ones others : List ℕ)
      → is_one_shorter (a ∷ ones) (b ∷ others) ≡ (is_same (a ∷ ones) others || (alike a b && is_one_shorter ones others))
  shorter_from ones others = ap (λ (r : Bool). is_same (a ∷ ones) others || r) (shorter_behind ones (without_one others))

  -- a name that is the same with one byte more is so without its first byte
  longer_so : (ones others : List ℕ) → is_same ones (b ∷ others) ≡ true → is_one_longer ones others ≡ true
  longer_so [] others same = let never : false ≡ true = same in absurd (cc)
  longer_so (one ∷ ones) others same = or_true (is_same ones others) _ (second_so (alike one b) (is_same ones others) same)

  shorter_so : (ones others : List ℕ) → is_same (a ∷ ones) others ≡ true → is_one_shorter ones others ≡ true
  shorter_so ones [] same = let never : false ≡ true = same in absurd (cc)
  shorter_so ones (other ∷ others) same = or_true (is_same ones others) _ (second_so (alike a other) (is_same ones others) same)

  -- the same first byte is passed over
  same_byte : (ones others : List ℕ) → alike a b ≡ true → is_one_edit (a ∷ ones) (b ∷ others) ≡ is_one_edit ones others
  same_byte ones others same =
      ap (λ (r : Bool). r || is_one_shorter (a ∷ ones) (b ∷ others) || is_one_replaced (a ∷ ones) (b ∷ others)) longer
      ∙ ap (λ (r : Bool). is_one_longer ones others || r || is_one_replaced (a ∷ ones) (b ∷ others)) shorter
      ∙ ap (λ (r : Bool). is_one_longer ones others || is_one_shorter ones others || r) replaced
    where
      longer : is_one_longer (a ∷ ones) (b ∷ others) ≡ is_one_longer ones others
      longer = longer_from ones others ∙ ap (λ (x : Bool). is_same ones (b ∷ others) || (x && is_one_longer ones others)) same
          ∙ absorbed (is_same ones (b ∷ others)) (is_one_longer ones others) (longer_so ones others)

      shorter : is_one_shorter (a ∷ ones) (b ∷ others) ≡ is_one_shorter ones others
      shorter = shorter_from ones others ∙ ap (λ (x : Bool). is_same (a ∷ ones) others || (x && is_one_shorter ones others)) same
          ∙ absorbed (is_same (a ∷ ones) others) (is_one_shorter ones others) (shorter_so ones others)

      replaced : is_one_replaced (a ∷ ones) (b ∷ others) ≡ is_one_replaced ones others
      replaced = ap (λ (x : Bool). if x then is_one_replaced ones others else is_same ones others) same

  -- at another byte the rest tells
  other_byte : (ones others : List ℕ) → alike a b ≡ false
      → is_one_edit (a ∷ ones) (b ∷ others) ≡ (is_same ones (b ∷ others) || is_same (a ∷ ones) others || is_same ones others)
  other_byte ones others differs =
      ap (λ (r : Bool). r || is_one_shorter (a ∷ ones) (b ∷ others) || is_one_replaced (a ∷ ones) (b ∷ others)) longer
      ∙ ap (λ (r : Bool). is_same ones (b ∷ others) || r || is_one_replaced (a ∷ ones) (b ∷ others)) shorter
      ∙ ap (λ (r : Bool). is_same ones (b ∷ others) || is_same (a ∷ ones) others || r) replaced
    where
      longer : is_one_longer (a ∷ ones) (b ∷ others) ≡ is_same ones (b ∷ others)
      longer = longer_from ones others ∙ ap (λ (x : Bool). is_same ones (b ∷ others) || (x && is_one_longer ones others)) differs
          ∙ or-false (is_same ones (b ∷ others))

      shorter : is_one_shorter (a ∷ ones) (b ∷ others) ≡ is_same (a ∷ ones) others
      shorter = shorter_from ones others ∙ ap (λ (x : Bool). is_same (a ∷ ones) others || (x && is_one_shorter ones others)) differs
          ∙ or-false (is_same (a ∷ ones) others)

      replaced : is_one_replaced (a ∷ ones) (b ∷ others) ≡ is_same ones others
      replaced = ap (λ (x : Bool). if x then is_one_replaced ones others else is_same ones others) differs

  -- two first bytes as names of one byte
  passed : (ones others : List ℕ) → is_same (a ∷ []) (b ∷ []) ≡ true → is_one_edit (a ∷ ones) (b ∷ others) ≡ is_one_edit ones others
  passed ones others same = same_byte ones others (sym (and-true (alike a b)) ∙ same)

  told : (ones others : List ℕ) → is_same (a ∷ []) (b ∷ []) ≡ false
      → is_one_edit (a ∷ ones) (b ∷ others) ≡ (is_same ones (b ∷ others) || is_same (a ∷ ones) others || is_same ones others)
  told ones others differs = other_byte ones others (sym (and-true (alike a b)) ∙ differs)

-- ---- One name has ended

none_ends : (byte : ℕ) (lefts : List (List ℕ)) → list_any (λ left. is_same left []) (map (λ left. byte ∷ left) lefts) ≡ false
none_ends byte [] = refl
none_ends byte (left ∷ lefts) = none_ends byte lefts

none_begins : (byte : ℕ) (lefts : List (List ℕ)) → list_any (λ left. is_same [] left) (map (λ left. byte ∷ left) lefts) ≡ false
none_begins byte [] = refl
none_begins byte (left ∷ lefts) = none_begins byte lefts

not_one : (n : ℕ) → eqb (suc (suc n)) 1 ≡ false
not_one n = eqb-suc-suc (suc n) 0 ∙ eqb-suc-zero n

-- one byte is left
one_left : (ones : List ℕ) → is_one_edit ones [] ≡ eqb (length ones) 1
one_left [] = refl
one_left (one ∷ []) = refl
one_left (one ∷ next ∷ ones) =
    ap (λ (r : Bool). r || false || false) (none_ends one (without_one (next ∷ ones))) ∙ sym (not_one (length ones))

one_more : (others : List ℕ) → is_one_edit [] others ≡ eqb (length others) 1
one_more [] = refl
one_more (other ∷ []) = refl
one_more (other ∷ next ∷ others) =
    ap (λ (r : Bool). r || false) (none_begins other (without_one (next ∷ others))) ∙ sym (not_one (length others))

pub ended_at : (ones others : List ℕ) → length others < 1 → is_one_edit ones others ≡ eqb (length ones) 1
ended_at ones [] none = one_left ones
ended_at ones (other ∷ others) none = absurd (omega (arith, none))

pub begun_at : (ones others : List ℕ) → length ones < 1 → is_one_edit ones others ≡ eqb (length others) 1
begun_at [] others none = one_more others
begun_at (one ∷ ones) others none = absurd (omega (arith, none))

-- ---- The first bytes, and what is behind them

headed : (bytes : List ℕ) → 1 ≤ length bytes → bytes ≡ get_or bytes 0 0 ∷ take (length bytes - 1) (drop 1 bytes)
headed [] some = absurd (omega (arith, some))
headed (byte ∷ bytes) some =
    ap (λ (l : List ℕ). byte ∷ l) (sym (take_all (length (byte ∷ bytes) - 1) bytes (omega arith)))

module _ (ones others : List ℕ) (some : 1 ≤ length ones) (more : 1 ≤ length others) where
  abbrev rest : List ℕ
  rest = take (length ones - 1) (drop 1 ones)

  abbrev after : List ℕ
  after = take (length others - 1) (drop 1 others)

  split : is_one_edit ones others ≡ is_one_edit (get_or ones 0 0 ∷ rest) (get_or others 0 0 ∷ after)
  split = ap (λ (l : List ℕ). is_one_edit l others) (headed ones some)
      ∙ ap (λ (l : List ℕ). is_one_edit (get_or ones 0 0 ∷ rest) l) (headed others more)

  pub passed_at : is_same (get_or ones 0 0 ∷ []) (get_or others 0 0 ∷ []) ≡ true → is_one_edit ones others ≡ is_one_edit rest after
  passed_at same = split ∙ passed (get_or ones 0 0) (get_or others 0 0) rest after same

  pub told_at : is_same (get_or ones 0 0 ∷ []) (get_or others 0 0 ∷ []) ≡ false
      → is_one_edit ones others ≡ (is_same rest others || is_same ones after || is_same rest after)
  told_at differs =
      split ∙ told (get_or ones 0 0) (get_or others 0 0) rest after differs
      ∙ ap (λ (l : List ℕ). is_same rest l || is_same (get_or ones 0 0 ∷ rest) after || is_same rest after) (sym (headed others more))
      ∙ ap (λ (l : List ℕ). is_same rest others || is_same l after || is_same rest after) (sym (headed ones some))

-- ---- The first three of a list

-- the first three, and what comes after all of them
pub three_of : (keys more : List (List ℕ)) → first_three (similar_key_list (first_three keys) ++ more) ≡ first_three (keys ++ more)
three_of [] more = refl
three_of (first ∷ []) more = refl
three_of (first ∷ second ∷ []) more = refl
three_of (first ∷ second ∷ third ∷ keys) more = refl

pub all_told : (similar : SimilarKeys) → first_three (similar_key_list similar ++ []) ≡ similar
all_told Nothing = refl
all_told (One first) = refl
all_told (Two first second) = refl
all_told (Three first second third) = refl

-- one key more
pub one_added : (similar : SimilarKeys) (key : List ℕ) (more : List (List ℕ))
    → first_three (similar_key_list (first_three (similar_key_list similar ++ key ∷ [])) ++ more) ≡ first_three (similar_key_list similar ++ key ∷ more)
one_added Nothing key more = refl
one_added (One first) key more = refl
one_added (Two first second) key more = refl
one_added (Three first second third) key more = refl

-- a key that is like the language is told, and another one isn't
pub like_told : (likeness : Likeness) (language : List ℕ) (now next : SimilarKeys) (key : List ℕ) (keys : List (List ℕ))
    → is_like likeness language key ≡ true → next ≡ first_three (similar_key_list now ++ key ∷ [])
    → told_in likeness language now (key ∷ keys) ≡ told_in likeness language next keys
like_told likeness language now next key keys like added =
    ap (λ (b : Bool). first_three
    (similar_key_list now ++ (if b then key ∷ filter (is_like likeness language) keys else filter (is_like likeness language) keys)))
    like
    ∙ sym (one_added now key (filter (is_like likeness language) keys))
    ∙ ap (λ (s : SimilarKeys). told_in likeness language s keys) (sym added)

pub other_told : (likeness : Likeness) (language : List ℕ) (now : SimilarKeys) (key : List ℕ) (keys : List (List ℕ))
    → is_like likeness language key ≡ false → told_in likeness language now (key ∷ keys) ≡ told_in likeness language now keys
other_told likeness language now key keys differs =
    ap (λ (b : Bool). first_three
    (similar_key_list now ++ (if b then key ∷ filter (is_like likeness language) keys else filter (is_like likeness language) keys)))
    differs
