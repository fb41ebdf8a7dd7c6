-- Categories by relations of which not all are told.
use Rattle.std.proofs.Common.{◌≡◌, ◌≢◌, ℕ, ◌+◌, ◌%◌, ◌<◌, ◌≤◌, List, [], ◌∷◌, refl, sym, ap, ◌∙◌, subst, arith, Bool, true, false}
use Rattle.std.specs.Prelude.{◌&&◌, ◌||◌, not, if◌then◌else◌, Option, Some, None, slice_index_or}
use Rattle.std.specs.List.{list_all, list_any}
use Rattle.plural_operands.specs.Operands.{Operands, of_whole}
use Rattle.plural_reference.specs.Truth.{some_group}
use Rattle.plural_runtime.specs.PackedRelations.{PackedRelation, groups}
use Rattle.plural_runtime.specs.PackedTruth.{is_true_at, packed_truth}
use Rattle.plural_base.specs.declared.category.PluralCategory.{PluralCategory}
use Rattle.plural_base.specs.declared.category.PluralCategory.TheVariants.{Zero, One, Two, Few, Many, Other}
use Rattle.plural_base.specs.Categories.{place_of}
use Rattle.plural_base.specs.FiveRules.{FiveRules, first_category, passes}
use Rattle.plural_base.specs.Inner.WholeNumbers.{AreAllTold, AreTold, IsTold, told_category, told_step}
use Rattle.plural_base.specs.Inner.FractionClasses.{AreAllFractionsTold, AreFractionCategories, is_told_of_fraction}
use Rattle.plural_base.specs.ToldCategories.{category_or, is_told, rule_or, truth_or}

-- ---- A test that passes more

abbrev Grows : {A : Type 0} → (A → Bool) → (A → Bool) → Type 0
Grows {A} f g = (x : A) → f x ≡ true → g x ≡ true

and_grows : (a b c d : Bool) → (a ≡ true → c ≡ true) → (b ≡ true → d ≡ true) → (a && b) ≡ true → (c && d) ≡ true
and_grows true b c d f g h = ap (λ t. t && d) (f refl) ∙ g h
and_grows false b c d f g h = absurd (cc h)

or_grows : (a b c d : Bool) → (a ≡ true → c ≡ true) → (b ≡ true → d ≡ true) → (a || b) ≡ true → (c || d) ≡ true
or_grows true b c d f g h = ap (λ t. t || d) (f refl)
or_grows false b true d f g h = refl
or_grows false b false d f g h = g h

all_grow : {A : Type 0} (f g : A → Bool) → Grows f g → Grows (list_all f) (list_all g)
all_grow f g more [] h = refl
all_grow f g more (x ∷ xs) h = and_grows (f x) (list_all f xs) (g x) (list_all g xs) (more x) (all_grow f g more xs) h

any_grows : {A : Type 0} (f g : A → Bool) → Grows f g → Grows (list_any f) (list_any g)
any_grows f g more [] h = absurd (cc h)
any_grows f g more (x ∷ xs) h = or_grows (f x) (list_any f xs) (g x) (list_any g xs) (more x) (any_grows f g more xs) h

group_grows : (f g : PackedRelation → Bool) → Grows f g → (relations : List PackedRelation)
    → some_group f (groups relations) ≡ true → some_group g (groups relations) ≡ true
group_grows f g more relations = any_grows (list_all f) (list_all g) (all_grow f g more) (groups relations)

-- ---- Guesses of false and of true

surely : (told : PackedRelation → Bool) (o : Operands) → Grows (truth_or false told o) (is_true_at o)
surely told o relation = by (told relation)
  where
    by : (t : Bool) → (if t then is_true_at o relation else false) ≡ true → is_true_at o relation ≡ true
    by true h = h
    by false h = absurd (cc h)

perhaps : (told : PackedRelation → Bool) (o : Operands) → Grows (is_true_at o) (truth_or true told o)
perhaps told o relation h = by (told relation)
  where
    by : (t : Bool) → (if t then is_true_at o relation else true) ≡ true
    by true = h
    by false = refl

-- a rule that is surely true is true, and one that is true may be
pub sure_rule : (told : PackedRelation → Bool) (o : Operands) (rule : Option (List PackedRelation))
    → passes (rule_or false told o) rule ≡ true → passes (packed_truth o) rule ≡ true
unfolding rule_or packed_truth
sure_rule told o None h = absurd (cc h)
sure_rule told o (Some relations) h = group_grows (truth_or false told o) (is_true_at o) (surely told o) relations h

pub maybe_rule : (told : PackedRelation → Bool) (o : Operands) (rule : Option (List PackedRelation))
    → passes (packed_truth o) rule ≡ true → passes (rule_or true told o) rule ≡ true
unfolding rule_or packed_truth
maybe_rule told o None h = absurd (cc h)
maybe_rule told o (Some relations) h = group_grows (is_true_at o) (truth_or true told o) (perhaps told o) relations h

pub ordered_rule : (told : PackedRelation → Bool) (o : Operands) (rule : Option (List PackedRelation))
    → passes (rule_or false told o) rule ≡ true → passes (rule_or true told o) rule ≡ true
ordered_rule told o rule h = maybe_rule told o rule (sure_rule told o rule h)

-- ---- What is told is the category

is_first : (sure truth maybe : Bool) (category rest : PluralCategory) (others : Option PluralCategory)
    → (sure ≡ true → truth ≡ true) → (truth ≡ true → maybe ≡ true) → IsTold rest others
    → IsTold (if truth then category else rest) (told_step sure maybe category others)
is_first true true maybe category rest others f g of = refl
is_first true false maybe category rest others f g of = absurd (cc (f refl))
is_first false truth true category rest others f g of = tt
is_first false true false category rest others f g of = absurd (cc (g refl))
is_first false false false category rest others f g of = of

pub told_is_first : (told : PackedRelation → Bool) (o : Operands) (rules : FiveRules)
    → IsTold (first_category (packed_truth o) rules) (told_category told o rules)
unfolding told_category
told_is_first told o rules =
    is_first _ _ _ Zero _ _ (sure_rule told o rules.zero) (maybe_rule told o rules.zero)
    (is_first _ _ _ One _ _ (sure_rule told o rules.one) (maybe_rule told o rules.one)
    (is_first _ _ _ Two _ _ (sure_rule told o rules.two) (maybe_rule told o rules.two)
    (is_first _ _ _ Few _ _ (sure_rule told o rules.few) (maybe_rule told o rules.few)
    (is_first _ _ _ Many _ (Some Other) (sure_rule told o rules.many) (maybe_rule told o rules.many) refl))))

-- what is told of the class of a number
pub told_if_open : (told : PackedRelation → Bool) (o : Operands) (rules : FiveRules) (wanted : Bool) (entry : Option PluralCategory)
    → entry ≡ (if wanted then told_category told o rules else None) → IsTold (first_category (packed_truth o) rules) entry
told_if_open told o rules wanted entry is =
    let P : Option PluralCategory → Type 0 = λ found. IsTold (first_category (packed_truth o) rules) found in
    subst P (sym is) (by wanted)
  where
    by : (b : Bool) → IsTold (first_category (packed_truth o) rules) (if b then told_category told o rules else None)
    by true = told_is_first told o rules
    by false = tt

pub all_are_told : (rules : FiveRules) (bound : ℕ) (cycle : List (Option PluralCategory)) → AreAllTold rules bound cycle → AreTold rules bound cycle
all_are_told rules bound cycle all = λ n from.
    told_if_open (is_told bound (n % 100)) (of_whole n) rules true (slice_index_or cycle (n % 100) None) (all n from)

pub fractions_are_told : (rules : FiveRules) (shown not_zero : Option PluralCategory) → AreAllFractionsTold rules shown not_zero
    → AreFractionCategories rules shown not_zero
fractions_are_told rules shown not_zero all = (
  λ o is. told_if_open (is_told_of_fraction 0) o rules true shown (all.shown_is o is),
  λ o is. told_if_open (is_told_of_fraction 1) o rules true not_zero (all.not_zero_is o is),
)

-- ---- It is told if and only if both guesses give the same

-- the categories by the two guesses, of rules from some category on
abbrev pub AreGuessed : Option PluralCategory → PluralCategory → PluralCategory → Type 0
AreGuessed None sure maybe = sure ≢ maybe
AreGuessed (Some told) sure maybe = (sure ≡ told) × (maybe ≡ told)

pub record AreFrom (least : ℕ) (told : Option PluralCategory) (sure maybe : PluralCategory) : Type 0 where
  pub from : least ≤ place_of sure
  pub guessed : AreGuessed told sure maybe

later : (a b : PluralCategory) → place_of a < place_of b → b ≢ a
later a b below same = let e = ap place_of same in absurd (omega arith)

one_before : (sure maybe : Bool) (category a b : PluralCategory) (others : Option PluralCategory)
    → (sure ≡ true → maybe ≡ true) → AreFrom (place_of category + 1) others a b
    → AreFrom (place_of category) (told_step sure maybe category others) (if sure then category else a) (if maybe then category else b)
one_before true true category a b others f of = record { from = omega arith; guessed = (refl, refl) }
one_before true false category a b others f of = absurd (cc (f refl))
one_before false true category a b others f of =
    record { from = (let from = of.from in omega arith); guessed = later category a (let from = of.from in omega arith) }
one_before false false category a b others f of = record { from = (let from = of.from in omega arith); guessed = of.guessed }

pub guesses : (told : PackedRelation → Bool) (o : Operands) (rules : FiveRules)
    → AreFrom 0 (told_category told o rules) (category_or false told o rules) (category_or true told o rules)
unfolding told_category
guesses told o rules =
    one_before _ _ Zero _ _ _ (ordered_rule told o rules.zero)
    (one_before _ _ One _ _ _ (ordered_rule told o rules.one)
    (one_before _ _ Two _ _ _ (ordered_rule told o rules.two)
    (one_before _ _ Few _ _ _ (ordered_rule told o rules.few)
    (one_before _ _ Many _ _ (Some Other) (ordered_rule told o rules.many) (record { from = omega arith; guessed = (refl, refl) })))))

-- ---- Entries as they are written, rule by rule

-- what is written for a class by a rule
abbrev pub written : Bool → Bool → Bool → PluralCategory → Option PluralCategory → Option PluralCategory
written wanted sure maybe category entry = if wanted && sure then Some category else (if wanted && maybe then None else entry)

-- A class that is wanted gets the category of a rule that is surely true, and nothing if it may be;
-- it stays wanted if it can't be. What is written afterwards is told of it if it is wanted.
by_step : (wanted sure maybe : Bool) (category : PluralCategory) (entry last others : Option PluralCategory)
    → (sure ≡ true → maybe ≡ true)
    → (((wanted && not maybe) ≡ true → written wanted sure maybe category entry ≡ Some Other)
    → last ≡ (if wanted && not maybe then others else written wanted sure maybe category entry))
    → (wanted ≡ true → entry ≡ Some Other) → last ≡ (if wanted then told_step sure maybe category others else entry)
by_step true true true category entry last others f after other = after (λ h. absurd (cc h))
by_step true true false category entry last others f after other = absurd (cc (f refl))
by_step true false true category entry last others f after other = after (λ h. absurd (cc h))
by_step true false false category entry last others f after other = after (λ h. other refl)
by_step false sure maybe category entry last others f after other = after (λ h. absurd (cc h))

pub one_more_rule : (wanted left sure maybe : Bool) (category : PluralCategory) (entry next last others : Option PluralCategory)
    → (sure ≡ true → maybe ≡ true)
    → left ≡ (wanted && not maybe) → next ≡ written wanted sure maybe category entry
    → ((left ≡ true → next ≡ Some Other) → last ≡ (if left then others else next))
    → (wanted ≡ true → entry ≡ Some Other) → last ≡ (if wanted then told_step sure maybe category others else entry)
one_more_rule wanted left sure maybe category entry next last others f left_is next_is after =
    let P : Bool → Type 0 = λ l. (l ≡ true → next ≡ Some Other) → last ≡ (if l then others else next) in
    let Q : Option PluralCategory → Type 0 = λ n.
    ((wanted && not maybe) ≡ true → n ≡ Some Other) → last ≡ (if wanted && not maybe then others else n) in
    by_step wanted sure maybe category entry last others f (subst Q next_is (subst P left_is after))

-- what is still wanted after the last rule is other
pub last_rule : (left : Bool) (entry : Option PluralCategory) → (left ≡ true → entry ≡ Some Other) → entry ≡ (if left then Some Other else entry)
last_rule true entry other = other refl
last_rule false entry other = refl

-- a category where it is surely true, and nothing where that isn't told
pub written_by : (wanted sure maybe : Bool) (category : PluralCategory) (entry : Option PluralCategory) → (sure ≡ true → maybe ≡ true)
    → (if wanted && not (sure || not maybe) then None else (if wanted && sure then Some category else entry))
    ≡ written wanted sure maybe category entry
written_by false sure maybe category entry f = refl
written_by true true true category entry f = refl
written_by true true false category entry f = absurd (cc (f refl))
written_by true false true category entry f = refl
written_by true false false category entry f = refl
