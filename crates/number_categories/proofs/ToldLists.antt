-- A number with the remainder of one that a table tells has the category of two numbers before it.
use Rattle.std.proofs.Common.{◌≡◌, ◌⊎◌, ℕ, ◌+◌, ◌-◌, ◌%◌, ◌<◌, ◌≤◌, zero, suc, Bool, List, true, false, Option, Some, None, refl, sym, subst, ◌∙◌, arith, inl, inr, length, get_or, set, replicate}
use Rattle.std.specs.List.{list_any}
use Rattle.std.specs.Prelude.{is_some, slice_index, IsSome, IsTrue}
use Rattle.std.proofs.lemmas.Bool.{cases_lt, cases_order, true≢false}
use Rattle.std.proofs.lemmas.List.{get_or-replicate, get_or-set_other, get_or-set_same, get_or_past}
use Rattle.std.proofs.lemmas.List.Folds.{list_any_at}
use Rattle.plural_base.specs.Categories.{place_of}
use Rattle.plural_base.specs.CategoryTables.{IsTableOf, TableTells, table_bound}
use Rattle.plural_base.specs.FiveRules.{FiveRules}
use Rattle.plural_base.specs.declared.category.PluralCategory.{PluralCategory}
use Rattle.plural_base.proofs.tables.Entries.{table_category}
use Rattle.number_categories.specs.WholeNumbers.{AreTwoBelow, HasWhole, least_at}
use Rattle.number_categories.specs.Inner.SoughtNumbers.{AreSeenBelow}
use Rattle.number_categories.specs.Inner.ToldRemainders.{AreMarked, AreRunsFrom, AreRunsOf, AreToldFrom, IsAsBefore}
use Rattle.number_categories.specs.declared.least_numbers.LeastNumbers.{LeastNumbers}
use Rattle.number_categories.proofs.SeenNumbers.{passed}

-- ---- A number that is told

module _ (rules : FiveRules) (bytes : List ℕ) (of : IsTableOf rules bytes) (m : ℕ) (from : 128 ≤ m) (told : PluralCategory)
    (tells : TableTells bytes m (Some told)) where
  -- the bound isn't above it
  bound_below : table_bound bytes ≤ m
  bound_below = by (cases_lt m (table_bound bytes))
    where
      by : (m < table_bound bytes) ⊎ (table_bound bytes ≤ m) → table_bound bytes ≤ m
      by (inl above) =
          let none : ◌≡◌ {A = Option PluralCategory} (Some told) None = tells.between from above in
          absurd (cc none)
      by (inr low) = low

  -- a later number that leaves the same has the category that is told
  later_told : (n : ℕ) → m ≤ n → n % 100 ≡ m % 100 → HasWhole rules told n
  later_told n after same =
      sym (table_category rules bytes n (Some told) record {
        low = λ less. absurd (omega arith);
        between = λ above less. absurd (omega (arith, bound_below));
        cycle = λ above bound. (let P : ℕ → Type 0 = λ r. slice_index bytes (136 + r) ≡ place_of told in
            subst P (sym same) (tells.cycle from bound_below));
      } of)

-- ---- 100 numbers, of which some are told

-- at first none is marked
pub none_marked : (bytes : List ℕ) → AreMarked bytes (replicate 100 false)
none_marked bytes = record {
  at = λ r small marked. absurd (cc (sym (get_or-replicate 100 r false false small) ∙ marked));
}

module _ (bytes : List ℕ) (marks : List Bool) (k : ℕ) (within : k < length marks) where
  abbrev Tells : ℕ → Type 0
  Tells r = (c : PluralCategory) × TableTells bytes (128 + r) (Some c)

  told_at : (told : Option PluralCategory) → TableTells bytes (128 + k) told → is_some told ≡ true → Tells k
  told_at None tells is_there = absurd (cc is_there)
  told_at (Some c) tells is_there = (c, tells)

  -- one more is marked if it is told
  pub marked_more : (told : Option PluralCategory) → TableTells bytes (128 + k) told → AreMarked bytes marks
      → AreMarked bytes (set marks k (is_some told))
  marked_more told tells so_far = record { at = λ r small marked. by r small marked (cases_order r k) }
    where
      by : (r : ℕ) → r < 100 → get_or (set marks k (is_some told)) r false ≡ true → (r ≡ k) ⊎ ((r < k) ⊎ (k < r)) → Tells r
      by r small marked (inl same) =
          let Q : ℕ → Type 0 = λ p. get_or (set marks k (is_some told)) p false ≡ true in
          subst Tells (sym same) (told_at told tells (sym (get_or-set_same marks k (is_some told) false within) ∙ subst Q same marked))
      by r small marked (inr (inl less)) =
          so_far.at r small (sym (get_or-set_other marks k r (is_some told) false (λ same. omega arith)) ∙ marked)
      by r small marked (inr (inr more)) =
          so_far.at r small (sym (get_or-set_other marks k r (is_some told) false (λ same. omega arith)) ∙ marked)

-- of numbers that have two of each remainder before them
pub marked_told : (rules : FiveRules) (bytes table : List ℕ) (marks : List Bool) (start from : ℕ) → IsTableOf rules bytes
    → table ≡ bytes → AreMarked table marks → ((n : ℕ) → from ≤ n → n < 10000 → (328 ≤ n) × (start + 200 ≤ n)) → AreToldFrom rules start from marks
marked_told rules bytes table marks start from of same marked high = record { at = λ n after below is. by n ((n + 72) % 100) after below refl is }
  where
    by : (n r : ℕ) → from ≤ n → n < 10000 → (n + 72) % 100 ≡ r → IsTrue (get_or marks r false) → IsAsBefore rules start n
    by n r after below left is =
        let up = high n after below in
        let up_0 = up.0 in
        let up_1 = up.1 in
        let small : r < 100 = omega arith in
        let told = (subst (λ (bs : List ℕ). AreMarked bs marks) same marked).at r small is in
        let has : (m : ℕ) → 128 + r ≤ m → m % 100 ≡ (128 + r) % 100 → HasWhole rules told.0 m =
        later_told rules bytes of (128 + r) (omega arith) told.0 told.1 in
        let before : (n - 200) + 200 ≡ n = omega arith in record {
          category = told.0;
          before = n - 200;
          from = omega arith;
          apart = omega arith;
          first = has (n - 200) (omega arith) (omega arith);
          second = has (n - 200 + 100) (omega arith) (omega arith);
          has = has n (omega arith) (omega arith);
        }

-- an empty list has no runs
pub no_runs : (rules : FiveRules) (start from : ℕ) (runs : List ℕ) → length runs ≡ 0 → AreRunsFrom rules start from runs
no_runs rules start from runs none = record {
  at = λ n j after below within. (let past : get_or runs ((n + 72) % 100) 0 ≡ 0 = get_or_past runs ((n + 72) % 100) 0 (omega arith) in
      absurd (omega arith));
}

-- ---- Runs of numbers that are told

abbrev pub IsMarkedAt : List Bool → ℕ → Type 0
IsMarkedAt told r = get_or told r false ≡ true

-- so many numbers from a place on are marked
module _ (told : List Bool) (runs : List ℕ) (place p run : ℕ) (next : p + 1 ≡ place) (all : length runs ≡ 100)
    (here : (j : ℕ) → j < run → IsMarkedAt told (place + j)) (end : place + run ≤ 100)
    (at : (r j : ℕ) → place ≤ r → r < 100 → j < get_or runs r 0 → (r + j < 100) × IsMarkedAt told (r + j)) where
  -- one more before them
  pub longer_run : IsMarkedAt told p → (new : ℕ) → new ≡ run + 1 → (j : ℕ) → j < new → IsMarkedAt told (p + j)
  longer_run marked new is zero less = subst (IsMarkedAt told) (omega arith) marked
  longer_run marked new is (suc j) less =
      let sum : place + j ≡ p + suc j = omega arith in
      subst (IsMarkedAt told) sum (here j (omega arith))

  -- a run is written at its place
  pub run_written : (new : ℕ) → p + new ≤ 100 → ((j : ℕ) → j < new → IsMarkedAt told (p + j)) → (r j : ℕ) → p ≤ r → r < 100
      → j < get_or (set runs p new) r 0 → (r + j < 100) × IsMarkedAt told (r + j)
  run_written new within own r j from small less = by (cases_order r p)
    where
      by : (r ≡ p) ⊎ ((r < p) ⊎ (p < r)) → (r + j < 100) × IsMarkedAt told (r + j)
      by (inl same) =
          let first : j < get_or (set runs p new) p 0 = subst (λ k. j < get_or (set runs p new) k 0) same less in
          let short : j < new = subst (λ k. j < k) (get_or-set_same runs p new 0 (omega arith)) first in
          (omega arith, subst (λ k. IsMarkedAt told (k + j)) (sym same) (own j short))
      by (inr (inl lower)) = absurd (omega arith)
      by (inr (inr higher)) = at r j (omega arith) small (subst (λ k. j < k) (get_or-set_other runs p r new 0 (λ same. omega arith)) less)

-- where the numbers that are marked are told, so are those in runs of them
pub runs_told : (rules : FiveRules) (start from : ℕ) (told : List Bool) (runs : List ℕ) → AreToldFrom rules start from told
    → AreRunsOf told runs → AreRunsFrom rules start from runs
runs_told rules start from told runs are of = record { at = λ n j after below within. by n j ((n + 72) % 100) after below refl within }
  where
    by : (n j r : ℕ) → from ≤ n → n + j < 10000 → (n + 72) % 100 ≡ r → j < get_or runs r 0 → IsAsBefore rules start (n + j)
    by n j r after below left within =
        let small : r < 100 = omega arith in
        let marked = of.at r j small within in
        let short = marked.0 in
        let same : r + j ≡ (n + j + 72) % 100 = omega arith in
        are.at (n + j) (omega arith) below (subst (λ k. get_or told k false ≡ true) same marked.1)

-- ---- The numbers that are passed over

-- two numbers before one are enough
has_second : (Has : ℕ → Type 0) (start n m : ℕ) (first second : Option ℕ) → start ≤ m → m + 100 < n → Has m → Has (m + 100)
    → AreTwoBelow Has start n first second → IsSome second
has_second Has start n m None second from apart here next (none, absent) = absurd (none m from (omega arith) here)
has_second Has start n m (Some k) None from apart here next (found, none) = absurd (by (cases_lt k (m + 100)))
  where
    by : (k < m + 100) ⊎ (m + 100 ≤ k) → ⊥
    by (inl before) = none (m + 100) (omega arith) (omega arith) next
    by (inr later) = found.3 m (omega arith) (omega arith) here
has_second Has start n m (Some k) (Some j) from apart here next two = refl

-- a number that has the category of two before it tells nothing more
as_before : (rules : FiveRules) (start n : ℕ) (seen : LeastNumbers) → IsAsBefore rules start n → AreSeenBelow rules start n seen
    → AreSeenBelow rules start (n + 1) seen
as_before rules start n seen is so_far =
    let two = least_at seen is.category in
    passed rules start n seen is.category is.has
    (has_second (λ n. HasWhole rules is.category n) start n is.before two.first two.second is.from is.apart is.first is.second
    (so_far.at is.category)) so_far

pub told_passed : (rules : FiveRules) (start from n : ℕ) (marks : List Bool) (seen : LeastNumbers) → AreToldFrom rules start from marks
    → from ≤ n → n < 10000 → get_or marks ((n + 72) % 100) false ≡ true → AreSeenBelow rules start n seen
    → AreSeenBelow rules start (n + 1) seen
told_passed rules start from n marks seen told after below marked so_far =
    as_before rules start n seen (told.at n after below marked) so_far

-- nor do those of a run
pub run_passed : (rules : FiveRules) (start from n k : ℕ) (runs : List ℕ) (seen : LeastNumbers) → AreRunsFrom rules start from runs
    → from ≤ n → k ≤ get_or runs ((n + 72) % 100) 0 → n + k ≤ 10000 → AreSeenBelow rules start n seen → AreSeenBelow rules start (n + k) seen
run_passed rules start from n zero runs seen are after within below so_far = subst (λ m. AreSeenBelow rules start m seen) (omega arith) so_far
run_passed rules start from n (suc k) runs seen are after within below so_far =
    let next : n + k + 1 ≡ n + suc k = omega arith in
    subst (λ m. AreSeenBelow rules start m seen) next
    (as_before rules start (n + k) seen (are.at n k after (omega arith) (omega arith))
    (run_passed rules start from n k runs seen are after (omega arith) (omega arith) so_far))

-- where all are marked
all_marked : (marks : List Bool) (eq : Bool → Bool) → eq false ≡ true → list_any eq marks ≡ false → (r : ℕ) → r < length marks
    → get_or marks r false ≡ true
all_marked marks eq same none r within = by (get_or marks r false) refl
  where
    by : (b : Bool) → get_or marks r false ≡ b → b ≡ true
    by true is = refl
    by false is = absurd (true≢false (sym (list_any_at eq marks r false within (subst (λ b. eq b ≡ true) (sym is) same)) ∙ none))

-- no further number tells more
pub all_passed : (rules : FiveRules) (start from : ℕ) (marks : List Bool) (seen : LeastNumbers) (eq : Bool → Bool)
    → AreToldFrom rules start from marks → length marks ≡ 100 → eq false ≡ true → list_any eq marks ≡ false → from ≤ 10000
    → AreSeenBelow rules start from seen → AreSeenBelow rules start 10000 seen
all_passed rules start from marks seen eq told hundred same none below so_far =
    subst (λ n. AreSeenBelow rules start n seen) sum (on (10000 - from) (omega arith))
  where
    sum : from + (10000 - from) ≡ 10000
    sum = omega arith

    on : (k : ℕ) → from + k ≤ 10000 → AreSeenBelow rules start (from + k) seen
    on zero high = subst (λ n. AreSeenBelow rules start n seen) (omega arith) so_far
    on (suc k) high =
        let next : (from + k) + 1 ≡ from + suc k = omega arith in
        let small : (from + k + 72) % 100 < 100 = omega arith in
        subst (λ n. AreSeenBelow rules start n seen) next
        (told_passed rules start from (from + k) marks seen told (omega arith) (omega arith)
        (all_marked marks eq same none ((from + k + 72) % 100) (omega (arith, hundred, small))) (on k (omega arith)))
