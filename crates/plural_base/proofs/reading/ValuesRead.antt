-- The values under the names of categories, member by member.
use Rattle.std.proofs.Common.{◌≡◌, ℕ, List, Option, Some, None, Bool, Ordering, Less, Equal, Greater, is_eq, nat_cmp, option_map}
use Rattle.std.proofs.Common.{refl, sym, ap, ◌∙◌}
use Rattle.std.proofs.lemmas.Map.Text.{is_eq-slice_cmp}
use Rattle.std.specs.Borrow.{Bor}
use Rattle.std.specs.Cmp.Lexicographic.{slice_cmp}
use Rattle.std.specs.Ordering.{match_ordering}
use Rattle.std.specs.Prelude.{bytes_eq}
use Rattle.serde_json.specs.Data.{Data, Members, member, object}
use Rattle.serde_json.specs.Find.{as_object, get_member}
use Rattle.serde_json.specs.View.{view}
use Rattle.serde_json.specs.declared.Value.{Value}
use Rattle.plural_base.specs.declared.category.by_category.ByCategory.{ByCategory}
use Rattle.plural_base.specs.declared.category.raw.RawPluralCategory.{RawPluralCategory}
use Rattle.plural_base.specs.declared.category.raw.RawPluralCategory.TheVariants as raw
use Rattle.plural_base.specs.Categories.{raw_name_of}
use Rattle.plural_base.specs.FiveRules.{five}
use Rattle.plural_base.specs.Inner.CategoryValues.{five_lent, five_under, if_named, kept_or, lent_at, rules_at, texts_among_five}
use Rattle.plural_base.specs.Ranges.{each}
use Rattle.plural_base.specs.RulesJson.{rules_meant, texts_in}
use Rattle.plural_base.proofs.encoding.RawCategories.{at-each}

-- ---- One walk

-- nothing comes behind the last member
pub kept_alone : (value : Option Data) → kept_or value None ≡ value
kept_alone None = refl
kept_alone (Some value) = refl

-- at first nothing is lent
pub none_lent : (values : ByCategory (Option (Bor Value))) → values ≡ each (λ category. None) → (category : RawPluralCategory)
    → lent_at values category ≡ None
none_lent values none category =
    ap (λ vs. lent_at vs category) none ∙ ap (option_map (λ v. view v.now)) (at-each (λ (c : RawPluralCategory). None) category)

-- the value under a name is the first member's, or stands among the rest
among : (name key : List ℕ) (value : Data) (rest : Members)
    → kept_or (if_named (bytes_eq name key) value) (get_member name rest) ≡ get_member name (member key value rest)
among name key value rest = by (slice_cmp nat_cmp name key) (bytes_eq name key) (is_eq-slice_cmp name key)
  where
    by : (order : Ordering) (same : Bool) → is_eq order ≡ same
        → kept_or (if_named same value) (get_member name rest)
        ≡ match_ordering order (get_member name rest) (Some value) (get_member name rest)
    by Less same is = rw (sym is) refl
    by Equal same is = rw (sym is) refl
    by Greater same is = rw (sym is) refl

-- one member is taken
pub next_value : (name key : List ℕ) (value : Data) (rest : Members) (old new all : Option Data)
    → new ≡ kept_or old (if_named (bytes_eq name key) value) → kept_or old (get_member name (member key value rest)) ≡ all
    → kept_or new (get_member name rest) ≡ all
next_value name key value rest old new all step so_far =
    ap (λ (found : Option Data). kept_or found (get_member name rest)) step ∙ by old ∙ so_far
  where
    by : (found : Option Data) → kept_or (kept_or found (if_named (bytes_eq name key) value)) (get_member name rest)
        ≡ kept_or found (get_member name (member key value rest))
    by None = among name key value rest
    by (Some first) = refl

-- what each category has, the five have
pub five_found : (values : ByCategory (Option (Bor Value))) (ms : Members)
    → ((category : RawPluralCategory) → lent_at values category ≡ get_member (raw_name_of category) ms)
    → five_lent values ≡ five_under ms
five_found values ms found =
    let zero = found raw.Zero in
    let one = found raw.One in
    let two = found raw.Two in
    let few = found raw.Few in
    let many = found raw.Many in cc

-- ---- An object

-- five rules are those under the five names
pub rules_found : (value : Data) (ms : Members) → Some ms ≡ as_object value → rules_meant value ≡ rules_at (five_under ms)
rules_found value ms is = by value is
  where
    by : (value : Data) → Some ms ≡ as_object value → rules_meant value ≡ rules_at (five_under ms)
    by (object others) same = let equal : ms ≡ others = cc in rw equal refl
    by _ same = absurd cc

-- and their texts
pub texts_found : (value : Data) (ms : Members) → Some ms ≡ as_object value → texts_in value ≡ texts_among_five (five_under ms)
texts_found value ms is = by value is
  where
    by : (value : Data) → Some ms ≡ as_object value → texts_in value ≡ texts_among_five (five_under ms)
    by (object others) same = let equal : ms ≡ others = cc in rw equal refl
    by _ same = absurd cc
